-- Sums of arrays of numbers.
use Rattle.std.specs.Prelude.{◌≡◌, ℤ, pos, ◌+ℤ◌, List, [], ◌∷◌, Some, Result, Ok}
use Rattle.std.specs.List.{AllZip}
use Rattle.tera.specs.Arithmetic.{and_then, as_i128, calculated}
use Rattle.tera.specs.Form.{Form}
use Rattle.tera.specs.Read.{number_in}
use Rattle.tera.specs.Refusal.{Refusal, plus}

-- what is added up from a total on: the sum, or the first refusal
abbrev pub added_up : Form → List Form → Result Form Refusal
added_up total [] = Ok total
added_up total (v ∷ vs) = and_then (calculated plus total v) (λ sum. added_up sum vs)

-- the sum of numbers
abbrev pub sum_of : List ℤ → ℤ
sum_of [] = pos 0
sum_of (z ∷ zs) = z +ℤ sum_of zs

-- these are the numbers of values, one by one
abbrev pub AreNumbersOf : List Form → List ℤ → Type 0
AreNumbersOf vs zs = AllZip (λ v z. number_in v ≡ Some z) vs zs

-- what the sum of an array begins with
abbrev pub nothing_yet : Form
nothing_yet = as_i128 (pos 0)
