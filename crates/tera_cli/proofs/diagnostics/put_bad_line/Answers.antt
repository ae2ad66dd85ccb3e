use Rattle.std.proofs.Common.{rules, refl, append-nil}
use Rattle.tera_cli.specs.Why.{why_text}
use Rattle.tera_replies.specs.Script.{ended}
use Rattle.tera_report.specs.Errors.{report_of}
use Rattle.tera_report.specs.Report.{report_text}
use Rattle.tera_report.proofs.PutLaws.{puts_after}
use Rattle.tera_cli.proofs.diagnostics.put_bad_line.Goals as goal

pub returns-in_err-put_report : goal.returns-in_err-put_report
returns-in_err-put_report g c =
    let bad = g.met.E.Sink.failed_early _ _ _ (why_text c.args.found) c.in_err-put_report.ensures in
    search rules

pub returns-in-Some : goal.returns-in-Some
returns-in-Some g c =
    puts_after g.E.Sink.takes g.E.Sink.fails g.met.E.Sink.joined g.met.E.Sink.failed_later _ _ _ _ _ _ _ (rw (c.in-Some.is) refl) c.in_ok-put_report.ensures
    c.put_expected.ensures

pub returns-in-None : goal.returns-in-None
returns-in-None g c = rw (c.in-None.is, append-nil (ended (report_text (report_of c.args.report.now)))) c.in_ok-put_report.ensures
