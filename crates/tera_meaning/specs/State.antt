-- What a context holds: a form at each of finitely many names. A name is its UTF-8 bytes.
use Rattle.std.specs.Prelude.{◌≡◌, ◌≢◌, ℕ, Bool, ◌&&◌, List, [], ◌++◌, Option, unwrap_or}
use Rattle.std.specs.Ordering.{nat_cmp}
use Rattle.std.specs.Cmp.Lexicographic.{slice_cmp, pointwise}
use Rattle.std.specs.FinMap.{FinMap, get, entries, from_entries}
use Rattle.tera_meaning.specs.Form.{Form}
use Rattle.tera_meaning.specs.Meaning.{Layout, Meaning, layout, meaning}
use Rattle.std.specs.Str.{bytes_eq}
use Rattle.tera_meaning.specs.Order.{same}
use Rattle.tera_meaning.specs.Tree.{undefined}

abbrev pub State : Type 0
State = FinMap (slice_cmp nat_cmp) Form

-- what is held is read as it is, and a name that holds nothing as undefined
abbrev pub read : Option Form → Form
read held = unwrap_or held undefined

-- the form at a name
abbrev pub form_at : State → List ℕ → Form
form_at state name = read (get state name)

-- what a name means
abbrev pub meaning_at : State → List ℕ → Meaning
meaning_at state name = meaning (form_at state name)

-- how what a name holds is laid out
abbrev pub layout_at : State → List ℕ → Layout
layout_at state name = layout (form_at state name)

-- whether two states hold the same names, and under each the same meaning
abbrev pub states_equal : State → State → Bool
states_equal f g =
    pointwise (λ p q. bytes_eq p.0 q.0 && same (meaning p.1) (meaning q.1)) (entries f) (entries g)

-- the state with what the source holds: a name that both hold has the source's value
abbrev pub extended : State → State → State
extended state source = from_entries (entries source ++ entries state)

-- the part holds the first names of the whole, in the order of their bytes, but not all of them,
-- and each with its value
abbrev pub IsProperBeginning : State → State → Type 0
IsProperBeginning part whole =
    (later : List (List ℕ × Form)) × (later ≢ []) × (entries whole ≡ entries part ++ later)
