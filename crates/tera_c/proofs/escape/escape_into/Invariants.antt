-- What stands before `at` is escaped, and the room keeps its length.
use Rattle.std.proofs.Common.{◌≡◌, ◌-◌, length}
use Rattle.tera_c.specs.inner.Escaping.{IsEscapedTo}
use Rattle.tera_c.proofs.escape.escape_into.Given as goal

abbrev pub invariant-loop-at : goal.invariant-loop-at
invariant-loop-at l = IsEscapedTo l.bytes l.at l.room l.filled × (length l.room ≡ length l.initial.room)

abbrev pub decreases-loop-at : goal.decreases-loop-at
decreases-loop-at l = length l.bytes - l.at
