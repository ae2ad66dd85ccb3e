-- Which numbers of a document are integers, and the kinds that hold them.
use Rattle.std.specs.Prelude.{ℕ, ℤ, pos, negsuc, ◌^◌, nat_lt, Bool, false, ◌&&◌, List, length}
use Rattle.std.specs.Prelude.{Option, Some, None, if◌then◌else◌}
use Rattle.std.specs.Str.{all_ascii_digits}
use Rattle.std.specs.Str.Parse.{without_leading_sign, signed_digits_value}
use Rattle.tera_meaning.specs.Integer.{IntegerKind, u64, i64, u128, i128, Integer}

-- a sign or none and then digits alone, one or more: no fraction, and no exponent
abbrev pub is_integer : List ℕ → Bool
is_integer text = nat_lt 0 (length (without_leading_sign text))
    && all_ascii_digits (without_leading_sign text)

-- whether a number is one of a kind
abbrev pub holds : IntegerKind → ℤ → Bool
holds u64 (pos n) = nat_lt n (2 ^ 64)
holds u64 (negsuc n) = false
holds i64 (pos n) = nat_lt n (2 ^ 63)
holds i64 (negsuc n) = nat_lt n (2 ^ 63)
holds u128 (pos n) = nat_lt n (2 ^ 128)
holds u128 (negsuc n) = false
holds i128 (pos n) = nat_lt n (2 ^ 127)
holds i128 (negsuc n) = nat_lt n (2 ^ 127)

-- the number in a kind that holds it, and else what is given
abbrev pub in_kind : IntegerKind → ℤ → Option Integer → Option Integer
in_kind kind z otherwise =
    if holds kind z then Some (record { kind = kind; value = z }) else otherwise

-- the number in the first of the kinds that holds it, as a script's literal without a suffix
abbrev pub in_first_kind : ℤ → Option Integer
in_first_kind z = in_kind i64 z (in_kind u64 z (in_kind i128 z (in_kind u128 z None)))

-- the number of a kind that a text is
abbrev pub read_in : IntegerKind → List ℕ → Option ℤ
read_in kind text = if is_integer text && holds kind (signed_digits_value 10 text)
    then Some (signed_digits_value 10 text) else None

-- the integer that a number's text is, if some kind holds it. -0 is 0
abbrev pub integer_in : List ℕ → Option Integer
integer_in text =
    if is_integer text then in_first_kind (signed_digits_value 10 text) else None
