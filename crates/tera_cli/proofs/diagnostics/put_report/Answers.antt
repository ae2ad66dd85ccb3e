-- A report and a line feed that are put in turn are put as one.
use Rattle.std.proofs.Common.{rules, refl, ◌∷◌, []}
use Rattle.tera_report.proofs.PutLaws.{puts_after}
use Rattle.tera_replies.specs.Script.{line_feed}
use Rattle.tera_cli.proofs.diagnostics.put_report.Goals as goal

pub returns-in_err-tell_to : goal.returns-in_err-tell_to
returns-in_err-tell_to g c =
    let bad = g.met.E.Sink.failed_early _ _ _ (line_feed ∷ []) c.in_err-tell_to.ensures in
    search rules

pub returns : goal.returns
returns g c =
    puts_after g.E.Sink.takes g.E.Sink.fails g.met.E.Sink.joined g.met.E.Sink.failed_later _ _ _ _ _ _ _ refl c.in_ok-tell_to.ensures
    c.put.ensures
