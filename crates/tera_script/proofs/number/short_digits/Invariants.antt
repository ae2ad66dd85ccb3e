use Rattle.std.proofs.Common.{◌≡◌, ◌<◌, ◌^◌, length}
use Rattle.tera_script.specs.Readers.{digits_from, front, past, is_word_byte}
use Rattle.tera_script.proofs.number.short_digits.Given as goal

-- the digits so far, and those that are left of the word; and that ten times the number fits
abbrev pub invariant-loop-digit : goal.invariant-loop-digit
invariant-loop-digit l = (digits_from l.magnitude (front is_word_byte l.rest) ≡ digits_from 0 (front is_word_byte l.fn.bytes))
    × (past is_word_byte l.rest ≡ past is_word_byte l.fn.bytes) × (l.magnitude < 10 ^ 18)

abbrev pub decreases-loop-digit : goal.decreases-loop-digit
decreases-loop-digit l = length l.rest
