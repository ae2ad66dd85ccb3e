use Rattle.std.proofs.Common.{◌≡◌, ◌<◌, ◌^◌, length}
use Rattle.tera_script.specs.Readers.{digits_from}
use Rattle.tera_script.proofs.number.few_digits.Given as goal

abbrev pub invariant-loop-digit : goal.invariant-loop-digit
invariant-loop-digit l = (digits_from l.magnitude l.rest ≡ digits_from 0 l.fn.bytes) × (l.magnitude < 10 ^ 18)

abbrev pub decreases-loop-digit : goal.decreases-loop-digit
decreases-loop-digit l = length l.rest
