-- What stands before `end` is escaped, and the room keeps its length.
use Rattle.std.proofs.Common.{◌≡◌, length}
use Rattle.tera_c.specs.inner.Escaping.{IsEscapedTo}
use Rattle.tera_c.proofs.escape.put_rest.Given as goal

abbrev pub invariant-loop-end : goal.invariant-loop-end
invariant-loop-end l = IsEscapedTo l.bytes l.end l.room l.full × (length l.room ≡ length l.initial.room)
