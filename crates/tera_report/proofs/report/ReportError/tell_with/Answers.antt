use Rattle.std.proofs.Common.{rules, refl, subst, ap, ◌∙◌, ◌++◌, map, length, replicate}
use Rattle.std.specs.List.{flat_map, join_with_byte}
use Rattle.tera_report.specs.Errors.{note_of, report_of}
use Rattle.tera_report.specs.Parts.{line_feed}
use Rattle.tera_report.specs.Report.{error_lines, line_of, note_text, space}
use Rattle.tera_report.specs.inner.Report.{shown_place}
use Rattle.tera_report.proofs.PutLaws.{puts_after}
use Rattle.tera_report.proofs.ReportLemmas.{head_whole}
use Rattle.tera_report.proofs.report.ReportError.tell_with.Goals as goal

pub returns-in_err-put_all : goal.returns-in_err-put_all
returns-in_err-put_all g c =
    let report = report_of c.args.self.now in
    let before = c.margin.ensures ∙ ap (λ l. replicate (length l) space) c.format.ensures.text in
    let is = head_whole _ _ report.file (line_of report) report c.as_str.ensures.value before refl refl in
    let place = shown_place report.file (line_of report) report.span in
    let head = subst (λ l. g.S.Sink.fails c.args.out.now l c.put_all.new.out) is (g.met.S.Sink.failed_early _ _ _ place c.in_err-put_all.ensures) in
    let bad = g.met.S.Sink.failed_early _ _ _ (flat_map note_text report.notes) head in
    search rules

pub returns-in_err-put_place : goal.returns-in_err-put_place
returns-in_err-put_place g c =
    let report = report_of c.args.self.now in
    let before = c.margin.ensures ∙ ap (λ l. replicate (length l) space) c.format.ensures.text in
    let is = head_whole _ _ _ _ report c.as_str.ensures.value before c.as_str-2.ensures.value c.requires in
    let failed = g.met.S.Sink.failed_later _ _ _ _ _ c.in_ok-put_all.ensures c.in_err-put_place.ensures in
    let head = subst (λ l. g.S.Sink.fails c.args.out.now l c.put_place.new.out) is failed in
    let bad = g.met.S.Sink.failed_early _ _ _ (flat_map note_text report.notes) head in
    search rules

pub returns : goal.returns
returns g c =
    let report = report_of c.args.self.now in
    let before = c.margin.ensures ∙ ap (λ l. replicate (length l) space) c.format.ensures.text in
    let is = head_whole _ _ _ _ report c.as_str.ensures.value before c.as_str-2.ensures.value c.requires in
    let took = g.met.S.Sink.joined _ _ _ _ _ c.in_ok-put_all.ensures c.in_ok-put_place.ensures in
    let head = subst (λ l. g.S.Sink.takes c.args.out.now l c.put_place.new.out) is took in
    let notes = ap (λ l. join_with_byte line_feed (error_lines report) ++ flat_map note_text (map note_of l)) c.as_slice.ensures.value in
    puts_after g.S.Sink.takes g.S.Sink.fails g.met.S.Sink.joined g.met.S.Sink.failed_later _ _ _ _ _ _ _ notes head c.put_notes.ensures
