-- What filters make of texts. None that they make is marked safe.
use Rattle.std.specs.Prelude.{ℕ, List, [], ◌∷◌, ◌++◌, codes, false, Result, Ok, Err}
use Rattle.std.specs.Fmt.{signed_decimal}
use Rattle.std.specs.Str.{trim}
use Rattle.std.specs.StrCase.Lower.{str_to_lowercase}
use Rattle.std.specs.StrCase.Upper.{str_to_uppercase}
use Rattle.tera.specs.Arithmetic.{and_then, each_ok}
use Rattle.tera.specs.Form.{Form}
use Rattle.tera.specs.Lookup.{name_of}
use Rattle.tera.specs.Printed.{printed_truth}
use Rattle.tera.specs.Refusal.{Refusal, wrong_kind}
use Rattle.tera.specs.Taken.{as_items, as_text}
use Rattle.tera.specs.Tree.{truth, number, text}
use Rattle.tera.specs.View.{marked}
use Rattle.tera_filters.specs.Arguments.{or_else}

-- a text that a filter makes
abbrev pub made : List ℕ → Form
made t = marked t false

abbrev pub upper_of : Form → Result Form Refusal
upper_of value = each_ok (λ t. made (str_to_uppercase t)) (as_text value)

abbrev pub lower_of : Form → Result Form Refusal
lower_of value = each_ok (λ t. made (str_to_lowercase t)) (as_text value)

-- the text without the white space at its ends
abbrev pub trim_of : Form → Result Form Refusal
trim_of value = each_ok (λ t. made (trim t)) (as_text value)

abbrev pub not_joinable : List ℕ → Refusal
not_joinable actual =
    wrong_kind (codes "Only strings, numbers and bools can be joined. This is a `") actual
    (codes "`")

-- what is joined of an item: the text of a truth value, a number or a text
abbrev pub joinable : Form → Result (List ℕ) Refusal
joinable (truth b) = Ok (printed_truth b)
joinable (number n) = Ok (signed_decimal n.value)
joinable (text t) = Ok t.spelled
joinable value = Err (not_joinable (name_of value))

-- items, each behind a separator, and items with a separator between them; or the first refusal
abbrev pub joined_on : List ℕ → List Form → Result (List ℕ) Refusal
joined_on between [] = Ok []
joined_on between (x ∷ xs) =
    and_then (joinable x) (λ t. each_ok (λ rest. between ++ (t ++ rest)) (joined_on between xs))

abbrev pub joined : List ℕ → List Form → Result (List ℕ) Refusal
joined between [] = Ok []
joined between (x ∷ xs) =
    and_then (joinable x) (λ t. each_ok (λ rest. t ++ rest) (joined_on between xs))

-- the items of an array with the argument `sep` between them, or nothing where it is left out
abbrev pub join_of : Form → Form → Result Form Refusal
join_of value arguments =
    and_then (as_items value) (λ xs. and_then (or_else as_text arguments (codes "sep") [])
    (λ between. each_ok made (joined between xs)))
