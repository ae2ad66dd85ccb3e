-- How two maps differ at a key.
use Rattle.std.specs.Prelude.{◌≡◌, Bool, true, cond, List, [], ◌∷◌, Option, None, Some}
use Rattle.std.specs.Prelude.{MatchOption}
use Rattle.std.specs.Ordering.{on, is_lt}
use Rattle.std.specs.declared.cmp.Ordering.{Ordering}
use Rattle.std.specs.declared.cmp.Ordering.TheVariants.{Less, Equal, Greater}
use Rattle.tera_meaning.specs.Form.{Form}
use Rattle.tera_meaning.specs.KeyMeaning.{KeyForm}
use Rattle.tera_meaning.specs.Meaning.{meaning}
use Rattle.tera_meaning.specs.Order.{compare}
use Rattle.tera_meaning.specs.Pairs.{key_form_order, value_at, AgreeEverywhere, IsLeastDifference}
use Rattle.tera_meaning.specs.Tree.{object, members}
use Rattle.tera_values.specs.declared.map_difference.Difference.{Difference}
use Rattle.tera_values.specs.declared.map_difference.Difference.TheVariants.{Values, LeftAlone}
use Rattle.tera_values.specs.declared.map_difference.Difference.TheVariants.{RightAlone}

-- the order of the meanings of two values
abbrev pub form_values : Form → Form → Ordering
form_values = on meaning compare

abbrev pub by_order : Ordering → Option Difference
by_order Less = Some (Values Less)
by_order Equal = None
by_order Greater = Some (Values Greater)

-- how what two maps have at a key differs, where it does
abbrev pub differing : Option Form → Option Form → Option Difference
differing None None = None
differing None (Some w) = Some RightAlone
differing (Some v) None = Some LeftAlone
differing (Some v) (Some w) = by_order (form_values v w)

-- what the second map lacks of the first
abbrev pub lacking : {V : Type 0} → Option V → Option Difference
lacking None = Some RightAlone
lacking (Some v) = None

module _ {K V : Type 0} (order : K → K → Ordering) where
  -- the key is below that of the pair, where there is one
  abbrev pub is_before : K → Option (K × V) → Bool
  is_before k None = true
  is_before k (Some p) = is_lt (order k p.0)

-- a difference at a key in place of the least so far
abbrev pub difference_at : Option Difference → KeyForm → Option (KeyForm × Difference)
    → Option (KeyForm × Difference)
difference_at None k least = least
difference_at (Some how) k least = Some (k, how)

-- the lesser of the least difference so far and that at a key
abbrev pub met : Option (KeyForm × Difference) → KeyForm → Option Difference
    → Option (KeyForm × Difference)
met least k how = cond (is_before key_form_order k least) (difference_at how k least) least

module _ {V : Type 0} (differs : KeyForm × V → Option Difference) where
  -- the least of the difference so far and those at the entries
  abbrev pub least_met : Option (KeyForm × Difference) → List (KeyForm × V)
      → Option (KeyForm × Difference)
  least_met least [] = least
  least_met least (e ∷ es) = least_met (met least e.0 (differs e)) es

-- the order of maps of these pairs
abbrev pub maps_order : List (KeyForm × Form) → List (KeyForm × Form) → Ordering
maps_order ps qs = compare (meaning (object (members ps))) (meaning (object (members qs)))

-- how two maps differ at the least key where they do
abbrev pub IsDifference : List (KeyForm × Form) → List (KeyForm × Form)
    → Option (KeyForm × Difference) → Type 0
IsDifference ps qs found = MatchOption found (AgreeEverywhere key_form_order form_values ps qs)
    (λ d. IsLeastDifference key_form_order form_values ps qs d.0
    × (differing (value_at key_form_order ps d.0) (value_at key_form_order qs d.0) ≡ Some d.1))
