-- What filters make of numbers, and numbers of texts.
use Rattle.std.specs.Prelude.{ℕ, ℤ, pos, negsuc, ◌++◌, List, codes, Result, Ok, Err}
use Rattle.std.specs.Option.{ok_or, option_map}
use Rattle.tera.specs.Arithmetic.{and_then, negated}
use Rattle.tera.specs.Form.{Form}
use Rattle.tera.specs.Integer.{u64}
use Rattle.tera.specs.Lookup.{name_of}
use Rattle.tera.specs.Path.{place}
use Rattle.tera.specs.Read.{number_in}
use Rattle.tera.specs.Refusal.{Refusal, message, not_a_number}
use Rattle.tera.specs.Tree.{number, text}
use Rattle.tera.specs.View.{integer}

-- a value that is a number, without its sign. One that is not below 0 keeps its kind
abbrev pub without_sign : Form → ℤ → Result Form Refusal
without_sign value (pos n) = Ok value
without_sign value (negsuc n) = negated value

abbrev pub abs_of : Form → Result Form Refusal
abs_of value =
    and_then (ok_or (number_in value) (not_a_number (name_of value))) (without_sign value)

abbrev pub no_integer : List ℕ → Refusal
no_integer t = message (codes "`" ++ (t ++ codes "` is no integer"))

-- the number that a value is, or that the digits of a text write: one below 2^64
abbrev pub int_of : Form → Result Form Refusal
int_of (number n) = Ok (number n)
int_of (text t) =
    ok_or (option_map (λ n. integer u64 (pos n)) (place t.spelled)) (no_integer t.spelled)
int_of value = Err (not_a_number (name_of value))
