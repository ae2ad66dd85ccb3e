use Rattle.std.proofs.Common.{rules, subst}
use Rattle.tera_report.specs.Report.{underline}
use Rattle.tera_report.proofs.PutLaws.{puts_after}
use Rattle.tera_report.proofs.ReportLemmas.{place_whole}
use Rattle.tera_report.proofs.report.text.put_place.Goals as goal

pub returns-in_err-put_frame : goal.returns-in_err-put_frame
returns-in_err-put_frame g c =
    let line = c.args.line.now in
    let is = place_whole c.args.file.now _ _ line c.args.span.now c.format.ensures.text c.format-2.ensures.text in
    let failed = g.met.S.Sink.failed_early _ _ _ (underline line c.args.span.now) c.in_err-put_frame.ensures in
    let bad = subst (λ l. g.S.Sink.fails c.args.out.now l c.put_frame.new.out) is failed in
    search rules

pub returns : goal.returns
returns g c =
    let line = c.args.line.now in
    let is = place_whole c.args.file.now _ _ line c.args.span.now c.format.ensures.text c.format-2.ensures.text in
    puts_after g.S.Sink.takes g.S.Sink.fails g.met.S.Sink.joined g.met.S.Sink.failed_later _ _ _ _ _ _ _ is c.in_ok-put_frame.ensures
    c.put_underline.ensures
