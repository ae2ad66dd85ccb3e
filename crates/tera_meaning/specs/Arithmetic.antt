-- Arithmetic on whole numbers: what each operator computes, and what is refused.
use Rattle.std.specs.Prelude.{◌≡◌, ◌^◌, nat_lt, ℕ, zero, suc, ℤ, pos, negsuc, ◌+ℤ◌, ◌-ℤ◌, ◌*ℤ◌}
use Rattle.std.specs.Prelude.{◌≤ℤ◌, ◌<ℤ◌, neg_ℤ, unsigned_abs, if◌then◌else◌, Option, Some, None}
use Rattle.std.specs.Prelude.{Result, Ok, Err}
use Rattle.std.specs.Int.{int_div_euclid, int_rem_euclid}
use Rattle.std.specs.Option.{option_map, option_and_then, ok_or}
use Rattle.tera_report.specs.Refusal.{Refusal, Operator, plus, minus, times, remainder}
use Rattle.tera_report.specs.Refusal.{floor_division, power, not_a_number, operand_outside_i128}
use Rattle.tera_report.specs.Refusal.{not_exact, divided_by_zero, exponent_outside_u32}
use Rattle.tera_report.specs.Refusal.{negation_outside_i128, negated_no_number}
use Rattle.tera_meaning.specs.Form.{Form}
use Rattle.tera_meaning.specs.Integer.{i128, is_small}
use Rattle.tera_meaning.specs.Lookup.{name_of}
use Rattle.tera_meaning.specs.Read.{number_in}
use Rattle.tera_meaning.specs.Tree.{number}

-- q and r are the quotient and the remainder of a by b, which is not 0
pub record IsDivided (a b q r : ℤ) : Type 0 where
  pub whole : a ≡ b *ℤ q +ℤ r
  pub least : pos 0 ≤ℤ r
  pub most : r <ℤ pos (unsigned_abs b)

-- the product of so many factors, each of them the base
unfoldable pub power_of : ℤ → ℕ → ℤ
power_of base zero = pos 1
power_of base (suc count) = base *ℤ power_of base count

-- what the next step makes of a result, and the same of each result
abbrev pub and_then : {X Y : Type 0} → Result X Refusal → (X → Result Y Refusal) → Result Y Refusal
and_then (Ok x) next = next x
and_then (Err refusal) next = Err refusal

abbrev pub each_ok : {X Y : Type 0} → (X → Y) → Result X Refusal → Result Y Refusal
each_ok f (Ok x) = Ok (f x)
each_ok f (Err refusal) = Err refusal

-- a number, where an i128 holds it
abbrev pub small : ℤ → Option ℤ
small z = if is_small z then Some z else None

-- the number that an operand is: no number is refused first, then one that no i128 holds
abbrev pub operand : Form → Result ℤ Refusal
operand value =
    and_then (ok_or (number_in value) (not_a_number (name_of value)))
    (λ z. ok_or (small z) (operand_outside_i128 z))

-- the result of an operator, which an i128 must hold
abbrev pub exact : Operator → ℤ → ℤ → ℤ → Result ℤ Refusal
exact operator a b z = ok_or (small z) (not_exact a operator b)

-- the result of a division, by what it answers where the quotient is one that an i128 holds
abbrev pub divided : Operator → ℤ → ℤ → ℤ → Result ℤ Refusal
divided operator a (pos zero) answer = Err divided_by_zero
divided operator a b answer = each_ok (λ quotient. answer) (exact operator a b (int_div_euclid a b))

-- the count of factors that an exponent is: below 2^32
abbrev pub exponent : ℤ → Option ℕ
exponent (pos n) = if nat_lt n (2 ^ 32) then Some n else None
exponent (negsuc n) = None

-- what an operator computes of two numbers
abbrev pub computed : Operator → ℤ → ℤ → Result ℤ Refusal
computed plus a b = exact plus a b (a +ℤ b)
computed minus a b = exact minus a b (a -ℤ b)
computed times a b = exact times a b (a *ℤ b)
computed remainder a b = divided remainder a b (int_rem_euclid a b)
computed floor_division a b = divided floor_division a b (int_div_euclid a b)
computed power a b =
    and_then (ok_or (exponent b) (exponent_outside_u32 b))
    (λ count. exact power a b (power_of a count))

-- a number as arithmetic gives it
abbrev pub as_i128 : ℤ → Form
as_i128 z = number (record { kind = i128; value = z })

-- what an operator computes of two values: the left operand is looked at first, then the right one
abbrev pub calculated : Operator → Form → Form → Result Form Refusal
calculated operator left right =
    each_ok as_i128 (and_then (operand left) (λ a. and_then (operand right) (computed operator a)))

-- the negation of a value, where an i128 holds both its number and the answer
abbrev pub negated : Form → Result Form Refusal
negated value =
    and_then (ok_or (number_in value) (negated_no_number (name_of value)))
    (λ z. ok_or (option_map as_i128 (option_and_then (λ a. small (neg_ℤ a)) (small z)))
    (negation_outside_i128 z))
