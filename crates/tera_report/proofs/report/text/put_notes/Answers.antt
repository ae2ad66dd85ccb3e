use Rattle.std.proofs.Common.{rules, map, drop, ◌+◌, subst}
use Rattle.std.specs.List.{flat_map}
use Rattle.tera_report.specs.Errors.{note_of}
use Rattle.tera_report.specs.Report.{note_text}
use Rattle.tera_report.proofs.ReportLemmas.{notes_split}
use Rattle.tera_report.proofs.report.text.put_notes.Goals as goal

pub returns-in_err-put_note : goal.returns-in_err-put_note
returns-in_err-put_note g c =
    let all = c.args.notes.now in
    let i = c.loop-note.note-index in
    let is = notes_split note_text note_of all i c.note-item.result c.loop-note-test.true c.note-item.is in
    let later = flat_map note_text (map note_of (drop (i + 1) all)) in
    let refused = g.met.S.Sink.failed_early _ _ _ later c.in_err-put_note.ensures in
    let bad = subst (λ l. g.S.Sink.fails c.args.out.now l c.put_note.new.out) is (g.met.S.Sink.failed_later _ _ _ _ _ c.loop-note.invariant refused) in
    search rules
