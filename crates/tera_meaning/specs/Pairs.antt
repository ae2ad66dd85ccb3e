-- The pairs of maps: lists in the order of insertion, lists with strictly rising keys, and the
-- least key at which two differ.
use Rattle.std.specs.Prelude.{◌≡◌, Bool, true, false, if◌then◌else◌, List, [], ◌∷◌, Option, Some}
use Rattle.std.specs.Prelude.{None}
use Rattle.std.specs.BTreeMap.{insert_entry}
use Rattle.std.specs.List.{IsDistinct, fold, list_any}
use Rattle.std.specs.List.Sorted.{IsStrictlySortedBy}
use Rattle.std.specs.Map.{keys_of, lookup}
use Rattle.std.specs.Option.{option_eq}
use Rattle.std.specs.Ordering.{ordering_then, on, eq_by_cmp, is_lt}
use Rattle.std.specs.declared.cmp.Ordering.{Ordering}
use Rattle.std.specs.declared.cmp.Ordering.TheVariants.{Less, Equal, Greater}
use Rattle.tera_meaning.specs.KeyMeaning.{KeyForm, key_meaning, key_order}

-- lists of entries under an order of keys
module _ {K V : Type 0} (order : K → K → Ordering) where
  -- each key is less than every later one
  abbrev pub Rises : List (K × V) → Type 0
  Rises pairs = IsStrictlySortedBy order (keys_of pairs)

  -- no two entries have keys that tie
  abbrev pub HasDistinctKeys : List (K × V) → Type 0
  HasDistinctKeys entries = IsDistinct (eq_by_cmp order) (keys_of entries)

  -- the pairs with a value at a key: in the place of the first pair whose key ties, which keeps the
  -- key that it has, and else behind all others
  abbrev pub put : List (K × V) → K → V → List (K × V)
  put [] k v = (k, v) ∷ []
  put (p ∷ ps) k v = if eq_by_cmp order k p.0 then (p.0, v) ∷ ps else p ∷ put ps k v

  -- the pairs with the entries, put one after another
  abbrev pub put_all : List (K × V) → List (K × V) → List (K × V)
  put_all pairs entries = fold (λ ps e. put ps e.0 e.1) pairs entries

  -- the entries, put into the places of their keys one after another
  abbrev pub rising : List (K × V) → List (K × V)
  rising [] = []
  rising (e ∷ es) = insert_entry order (rising es) e.0 e.1

  -- what is paired with a key
  abbrev pub value_at : List (K × V) → K → Option V
  value_at entries k = lookup (eq_by_cmp order k) entries

  -- whether some key is greater
  abbrev pub goes_on : List (K × V) → K → Bool
  goes_on entries k = list_any (λ e. is_lt (order k e.0)) entries

-- and an order of values
module _ {K V : Type 0} (order : K → K → Ordering) (values : V → V → Ordering) where
  -- by key and then by value
  abbrev pub entry_order : K × V → K × V → Ordering
  entry_order d e = ordering_then (order d.0 e.0) (values d.1 e.1)

  -- whether both have values at the key that tie, or neither has one
  abbrev pub agree_at : List (K × V) → List (K × V) → K → Bool
  agree_at ps qs k = option_eq (eq_by_cmp values) (value_at order ps k) (value_at order qs k)

  abbrev pub AgreeEverywhere : List (K × V) → List (K × V) → Type 0
  AgreeEverywhere ps qs = (k : K) → agree_at ps qs k ≡ true

  -- the two differ at the key, and at no lesser one
  abbrev pub IsLeastDifference : List (K × V) → List (K × V) → K → Type 0
  IsLeastDifference ps qs k =
      (agree_at ps qs k ≡ false) × ((l : K) → order l k ≡ Less → agree_at ps qs l ≡ true)

  -- where both have a value these decide; the one that alone has one is less if the other goes on,
  -- else greater
  abbrev pub by_values : Option V → Option V → Bool → Bool → Ordering
  by_values (Some x) (Some y) goes_on other_goes_on = values x y
  by_values (Some x) None goes_on other_goes_on = if other_goes_on then Less else Greater
  by_values None (Some y) goes_on other_goes_on = if goes_on then Greater else Less
  by_values None None goes_on other_goes_on = Equal

  -- the order of two lists as it stands at a key
  abbrev pub order_at : List (K × V) → List (K × V) → K → Ordering
  order_at ps qs k = by_values (value_at order ps k) (value_at order qs k) (goes_on order ps k)
      (goes_on order qs k)

-- the order of keys, whatever their form
abbrev pub key_form_order : KeyForm → KeyForm → Ordering
key_form_order = on key_meaning key_order

-- the rising list of the entries, in whatever order they stand
abbrev pub pairs_of : {V : Type 0} → List (KeyForm × V) → List (KeyForm × V)
pairs_of entries = rising key_form_order entries
