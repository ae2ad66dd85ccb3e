use Rattle.std.proofs.Common.{◌≡◌, length}
use Rattle.tera_script.specs.Readers.{behind, hex_at}
use Rattle.tera_script.proofs.hex.take_hex.Given as goal

-- the bytes so far and those of what is left are those of all
abbrev pub invariant-loop-high : goal.invariant-loop-high
invariant-loop-high l = behind l.taken.items (hex_at l.rest) ≡ hex_at l.bytes

abbrev pub decreases-loop-high : goal.decreases-loop-high
decreases-loop-high l = length l.rest
