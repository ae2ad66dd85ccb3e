-- The notes so far were put.
use Rattle.std.proofs.Common.{map, take}
use Rattle.std.specs.List.{flat_map}
use Rattle.tera_report.specs.Errors.{note_of}
use Rattle.tera_report.specs.Report.{note_text}
use Rattle.tera_report.proofs.report.text.put_notes.Given as goal

abbrev pub invariant-loop-note : goal.invariant-loop-note
invariant-loop-note g l = g.S.Sink.takes l.fn.out (flat_map note_text (map note_of (take l.note-index l.notes))) l.out
