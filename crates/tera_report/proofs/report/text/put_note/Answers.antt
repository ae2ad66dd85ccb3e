use Rattle.std.proofs.Common.{rules, refl, subst, ap, ◌∙◌}
use Rattle.tera_report.specs.Errors.{note_of}
use Rattle.tera_report.specs.Report.{line_of_note, numbered_line}
use Rattle.tera_report.specs.inner.Report.{shown_place}
use Rattle.tera_report.proofs.PutLaws.{puts_after}
use Rattle.tera_report.proofs.ReportLemmas.{note_whole}
use Rattle.tera_report.proofs.report.text.put_note.Goals as goal

pub returns-in_err-put_all : goal.returns-in_err-put_all
returns-in_err-put_all g c =
    let note = note_of c.args.note.now in
    let is = note_whole _ note.file (line_of_note note) note c.as_str.ensures.value refl refl in
    let place = shown_place note.file (line_of_note note) note.span in
    let bad = subst (λ l. g.S.Sink.fails c.args.out.now l c.put_all.new.out) is (g.met.S.Sink.failed_early _ _ _ place c.in_err-put_all.ensures) in
    search rules

pub returns : goal.returns
returns g c =
    let note = note_of c.args.note.now in
    let line = c.numbered_line-line.ensures ∙ ap (λ l. numbered_line l note.span.start_line) c.as_str-2.ensures.value in
    let is = note_whole _ _ _ note c.as_str.ensures.value c.as_str-3.ensures.value line in
    puts_after g.S.Sink.takes g.S.Sink.fails g.met.S.Sink.joined g.met.S.Sink.failed_later _ _ _ _ _ _ _ is c.in_ok-put_all.ensures
    c.put_place.ensures
