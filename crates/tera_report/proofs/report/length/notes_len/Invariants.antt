-- The total is the length of the notes so far, with the cap.
use Rattle.std.proofs.Common.{◌≡◌, length, map, take}
use Rattle.std.specs.List.{flat_map}
use Rattle.tera_report.specs.Errors.{note_of}
use Rattle.tera_report.specs.Report.{note_text}
use Rattle.tera_report.specs.inner.Report.{capped}
use Rattle.tera_report.proofs.report.length.notes_len.Given as goal

abbrev pub invariant-loop-note : goal.invariant-loop-note
invariant-loop-note l = l.total ≡ capped (length (flat_map note_text (map note_of (take l.note-index l.notes))))
