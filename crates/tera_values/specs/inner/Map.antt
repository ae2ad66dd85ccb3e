-- From the code's maps to pair lists.
use Rattle.std.specs.Prelude.{◌≡◌, ◌≢◌, ⊤, ℕ, Bool, List, [], length, map}
use Rattle.std.specs.List.{IsDistinct, zip}
use Rattle.std.specs.Ordering.{on, eq_by_cmp}
use Rattle.std.specs.Vec.Iter.{into_iter_items}
use Rattle.tera_meaning.specs.Form.{Form}
use Rattle.tera_meaning.specs.KeyMeaning.{KeyForm, key_order, text_key}
use Rattle.tera_values.specs.Key.{key_form, meaning_of_key}
use Rattle.tera_values.specs.declared.key.Key.{Key}
use Rattle.tera_values.specs.declared.map.keys.Keys.{Keys}
use Rattle.tera_values.specs.declared.map.Held.{Held}
use Rattle.tera_values.specs.declared.map.Held.TheVariants.{Nothing, Pairs}
use Rattle.tera_values.specs.declared.map.keys.Keys.TheVariants.{Few, Many}
use Rattle.tera_values.specs.declared.map.keys.OwnKeys.{OwnKeys}
use Rattle.tera_values.specs.declared.map.keys.OwnKeys.TheVariants.{Few as FewLeft}
use Rattle.tera_values.specs.declared.map.keys.OwnKeys.TheVariants.{Many as ManyLeft}

-- whether two keys are equal
abbrev pub keys_tie : Key → Key → Bool
keys_tie = on meaning_of_key (eq_by_cmp key_order)

-- whether a key is this text
abbrev pub is_text_key : List ℕ → Key → Bool
is_text_key t k = eq_by_cmp key_order (text_key t) (meaning_of_key k)

-- the keys of a list or of a set
abbrev pub keys_held : Keys → List Key
keys_held (Few few) = few.items
keys_held (Many many) = many.keys

-- the keys that are still to be given away
abbrev pub keys_left : OwnKeys → List Key
keys_left (FewLeft few) = into_iter_items few
keys_left (ManyLeft many) = many

-- each key, as it is held, beside the value at its place
abbrev pub pairs_held : {V : Type 0} → List Key → List V → List (KeyForm × V)
pairs_held ks vs = zip (map key_form ks) vs

-- the pairs of a map
abbrev pub pairs_in : Held → List (KeyForm × Form)
pairs_in (Nothing state) = []
pairs_in (Pairs columns) = columns.value

-- a map without pairs holds no lists
abbrev pub HasPairs : Held → Type 0
HasPairs (Nothing state) = ⊤
HasPairs (Pairs columns) = columns.value ≢ []

-- no two keys are equal, and each has a value
pub record AreColumns {V : Type 0} (ks : List Key) (vs : List V) : Type 0 where
  pub even : length ks ≡ length vs
  pub distinct : IsDistinct keys_tie ks

-- distinct keys, and the values beside them, that make these pairs
pub record AreListsOf (ps : List (KeyForm × Form)) (ks : List Key) (vs : List Form) : Type 0 where
  pub pairs : pairs_held ks vs ≡ ps
  pub columns : AreColumns ks vs

-- keys of the same forms in the same order, no two of them equal
pub record AreKeysLike (ks made : List Key) : Type 0 where
  pub forms : map key_form made ≡ map key_form ks
  pub distinct : IsDistinct keys_tie made
