-- The copies so far are the notes so far.
use Rattle.std.proofs.Common.{◌≡◌, map, take}
use Rattle.tera_report.specs.Errors.{note_of}
use Rattle.tera_report.proofs.report.copied_notes.Given as goal

abbrev pub invariant-loop-note : goal.invariant-loop-note
invariant-loop-note l = map note_of l.copies.items ≡ map note_of (take l.note-index l.notes)
