use Rattle.std.proofs.Common.{◌≡◌, ℕ, List, length}
use Rattle.tera_script.specs.Readers.{behind, hex_at}
use Rattle.tera_script.proofs.why_literal.pass_hex.Given as goal

-- some bytes so far and those of what is left are those of all
abbrev pub invariant-loop-high : goal.invariant-loop-high
invariant-loop-high l = (taken : List ℕ) × (behind taken (hex_at l.rest) ≡ hex_at l.bytes)

abbrev pub decreases-loop-high : goal.decreases-loop-high
decreases-loop-high l = length l.rest
