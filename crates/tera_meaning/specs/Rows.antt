-- Small meanings, on which the definitions are tried.
use Rattle.std.specs.Prelude.{◌≡◌, ◌↔◌, ◌-◌, ◌^◌, ◌≤ℤ◌, ◌<ℤ◌, ℕ, Bool, true, false, ◌&&◌, ℤ, pos}
use Rattle.std.specs.Prelude.{negsuc, List, [], ◌∷◌, Option, None, IsTrue, is_none}
use Rattle.std.specs.List.{list_all}
use Rattle.std.specs.Ordering.{is_lt}
use Rattle.std.specs.declared.cmp.Ordering.{Ordering}
use Rattle.tera_meaning.specs.Conversion.{IntegerType, has_number}
use Rattle.tera_meaning.specs.Decided.{decided}
use Rattle.tera_meaning.specs.Form.{Form}
use Rattle.tera_meaning.specs.Integer.{IntegerKind}
use Rattle.tera_meaning.specs.KeyMeaning.{KeyMeaning, KeyForm, number_key, text_key, owned}
use Rattle.tera_meaning.specs.Meaning.{Meaning}
use Rattle.tera_meaning.specs.Order.{compare}
use Rattle.tera_meaning.specs.Read.{iterable_in}
use Rattle.tera_meaning.specs.SliceRule.{IsSliceOf}
use Rattle.tera_meaning.specs.Tree.{Tree, none, number, text, array, object, items, members}

abbrev pub count : ℕ → Meaning
count n = number (pos n)

abbrev pub list_of : List Meaning → Meaning
list_of xs = array (items xs)

abbrev pub map_of : List (KeyMeaning × Meaning) → Meaning
map_of ps = object (members ps)

-- a map that holds none at one key, as a meaning or as a form
abbrev pub map_at : {N T K : Type 0} → K → Tree N T K
map_at k = object (members ((k, none) ∷ []))

-- whether each is less than every later one
abbrev pub rises : List Meaning → Bool
rises [] = true
rises (x ∷ xs) = list_all (λ y. is_lt (compare x y)) xs && rises xs

-- a text as a form, with its flag unset and set
abbrev pub normal : List ℕ → Form
normal t = text (record { spelled = t; safe = false })

abbrev pub marked : List ℕ → Form
marked t = text (record { spelled = t; safe = true })

-- a number as a form, and one that is not below 0
abbrev pub integer : IntegerKind → ℤ → Form
integer kind z = number (record { kind = kind; value = z })

abbrev pub held : IntegerKind → ℕ → Form
held kind n = integer kind (pos n)

-- the least number of an i128, and the greatest
abbrev pub least : ℤ
least = negsuc (2 ^ 127 - 1)

abbrev pub greatest : ℤ
greatest = pos (2 ^ 127 - 1)

-- a type has the numbers from the first on, up to another without this, and no more
abbrev pub HasJust : IntegerType → ℤ → ℤ → Type 0
HasJust type first end = (z : ℤ) → IsTrue (has_number type z) ↔ ((first ≤ℤ z) × (z <ℤ end))

-- a number as a key holds it
abbrev pub key_of : IntegerKind → ℕ → KeyForm
key_of kind n = number_key (record { kind = kind; value = pos n })

-- the two compare so, and are not decided
abbrev pub ComparesUndecided : Meaning → Meaning → Ordering → Type 0
ComparesUndecided x y answer = (compare x y ≡ answer) × (decided x y ≡ None)

-- whether no two of these are decided
abbrev pub undecided : List Meaning → Bool
undecided [] = true
undecided (x ∷ xs) = list_all (λ y. is_none (decided x y)) xs && undecided xs

-- a list of numbers is the slice of another
abbrev pub SlicesTo : List ℕ → Option ℤ → Option ℤ → ℤ → List ℕ → Type 0
SlicesTo xs start end step ys = IsSliceOf xs start end step ys

-- a text as a key holds it
abbrev pub named : List ℕ → KeyForm
named t = text_key (owned t)

-- whether a form has parts
abbrev pub has_parts : Form → Bool
has_parts value = iterable_in value

-- an array and a map of forms
abbrev pub listed : List Form → Form
listed xs = array (items xs)

abbrev pub mapped : List (KeyForm × Form) → Form
mapped ps = object (members ps)

-- a map that holds a value at one text
abbrev pub at_name : List ℕ → Form → Form
at_name t value = mapped ((named t, value) ∷ [])
