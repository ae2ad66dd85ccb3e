use Rattle.std.proofs.Common.{◌≡◌, take, fold, length}
use Rattle.tera_values.specs.Hashing.{join_byte}
use Rattle.tera_values.proofs.hash_state.last_word.Given as goal

abbrev pub invariant-loop-b : goal.invariant-loop-b
invariant-loop-b l = l.word ≡ fold join_byte (length l.bytes) (take l.b-index l.bytes)
