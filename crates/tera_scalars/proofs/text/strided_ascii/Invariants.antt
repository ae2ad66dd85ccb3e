-- What was put, and what the walk takes of the bytes that are left, is what it takes of all.
use Rattle.std.proofs.Common.{◌-◌, length}
use Rattle.std.specs.String.{string_bytes}
use Rattle.tera_scalars.specs.Positions.{turned}
use Rattle.tera_scalars.proofs.TextLemmas.{IsPutSoFar}
use Rattle.tera_scalars.proofs.text.strided_ascii.Given as goal

abbrev pub invariant-loop-at : goal.invariant-loop-at
invariant-loop-at l = IsPutSoFar (l.fn.by - 1) (turned l.backwards l.bytes) l.at (string_bytes l.made)

abbrev pub decreases-loop-at : goal.decreases-loop-at
decreases-loop-at l = length l.bytes - l.at
