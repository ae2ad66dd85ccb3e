-- What was put and the pieces left are all of the pieces.
use Rattle.std.proofs.Common.{drop}
use Rattle.std.specs.List.{flat_map}
use Rattle.tera_report.proofs.PutLaws.{SoFar}
use Rattle.tera_report.proofs.words.put_all.Given as goal

abbrev pub invariant-loop-at : goal.invariant-loop-at
invariant-loop-at g l = SoFar g.S.Sink.takes l.fn.out (flat_map (λ p. p.now) l.pieces) (flat_map (λ p. p.now) (drop l.at l.pieces)) l.out
