-- What was put and what the rest gives are the whole; the rest gets shorter.
use Rattle.std.proofs.Common.{length}
use denote.Text.{Utf8}
use denote.Shadow.{shadow}
use Rattle.tera_report.specs.Escaping.{escaped}
use Rattle.tera_report.proofs.PutLaws.{SoFar}
use Rattle.tera_report.proofs.escape.escape_to.Given as goal

abbrev pub invariant-loop-piece : goal.invariant-loop-piece
invariant-loop-piece g l = shadow (Utf8 l.rest) × SoFar g.S.Sink.takes l.fn.out (escaped l.fn.text) (escaped l.rest) l.out

abbrev pub decreases-loop-piece : goal.decreases-loop-piece
decreases-loop-piece g l = length l.rest
