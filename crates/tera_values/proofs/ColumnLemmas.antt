-- The two columns of a map: its keys, and its values in the same order.
use Rattle.std.specs.Prelude.{◌≡◌, ◌≢◌, ◌<◌, ◌≤◌, ℕ, Bool, zero, suc, true, false, not, cond, ◌||◌}
use Rattle.std.specs.Prelude.{if◌then◌else◌, List, [], ◌∷◌, ◌++◌, length, Some, None, position, slice_get, refl}
use Rattle.std.proofs.Common.{sym, ◌∙◌, ap, arith, get_or, set}
use Rattle.std.proofs.lemmas.List.Quantifiers.{position-Some}
use Rattle.std.proofs.lemmas.Bool.Decides.{nat_tests}
use Rattle.std.specs.List.{AllByRecursion, IsDistinct, list_any, position_or_len}
use Rattle.std.specs.Map.{keys_of}
use Rattle.std.specs.Ordering.{eq_by_cmp}
use Rattle.indexmap.specs.IndexSet.{insert_key}
use Rattle.tera_meaning.specs.Form.{Form}
use Rattle.tera_meaning.specs.KeyMeaning.{KeyForm}
use Rattle.tera_meaning.specs.Tree.{items, items_depth, members, members_depth}
use Rattle.tera_meaning.specs.Pairs.{key_form_order, put, value_at, HasDistinctKeys}
use Rattle.tera_values.specs.Key.{key_form}
use Rattle.tera_values.specs.inner.Map.{keys_tie, pairs_held, AreColumns}
use Rattle.tera_values.specs.declared.key.Key.{Key}
use Rattle.tera_values.proofs.KeyLemmas.{place_tells}

pub no_keys : IsDistinct keys_tie []
unfolding IsDistinct
no_keys = tt

-- a key that is not there goes behind the others
pub new_key : (ks : List Key) (k : Key) → list_any (keys_tie k) ks ≡ false → insert_key keys_tie ks k ≡ ks ++ k ∷ []
new_key ks k e = ap (λ b. if b then ks else ks ++ k ∷ []) e

-- a key that is there leaves the keys as they are
pub held_key : (ks : List Key) (k : Key) → list_any (keys_tie k) ks ≡ true → insert_key keys_tie ks k ≡ ks
held_key ks k e = ap (λ b. if b then ks else ks ++ k ∷ []) e

-- the place of a key, where one is equal to it
pub placed : (k : Key) (ks : List Key) → list_any (keys_tie k) ks ≡ true → position_or_len (keys_tie k) ks < length ks
placed k ks some = let below = place_tells (keys_tie k) ks ∙ some in grind (arith, nat_tests, below)

pub placed_at : (k : Key) (ks : List Key) → list_any (keys_tie k) ks ≡ true → Some (position_or_len (keys_tie k) ks) ≡ position (keys_tie k) ks
placed_at k ks some = ap (λ b. cond b (Some (position_or_len (keys_tie k) ks)) None) (sym (place_tells (keys_tie k) ks ∙ some))

pub was_held : (is_new any : Bool) → is_new ≡ not any → is_new ≡ false → any ≡ true
was_held is_new true e h = refl
was_held is_new false e h = cc

pub was_new : (is_new any : Bool) → is_new ≡ not any → is_new ≡ true → any ≡ false
was_new is_new true e h = cc
was_new is_new false e h = refl

-- the values are no deeper than their map
pub column_depth : (ks : List Key) (vs : List Form) → length ks ≡ length vs → items_depth (items vs) ≤ members_depth (members (pairs_held ks vs))
column_depth ks [] even = omega arith
column_depth [] (v ∷ vs) even = absurd (omega arith)
column_depth (k ∷ ks) (v ∷ vs) even = omega (arith, column_depth ks vs (omega arith))

module _ {V : Type 0} where
  pub no_columns : AreColumns {V = V} [] []
  no_columns = record { even = refl; distinct = no_keys }

  -- the columns behind the first pair
  pub rest_columns : (k : Key) (ks : List Key) (v : V) (vs : List V) → AreColumns (k ∷ ks) (v ∷ vs) → AreColumns ks vs
  unfolding IsDistinct
  rest_columns k ks v vs h = record { even = let e = h.even in omega arith; distinct = h.distinct.1 }

  -- as many pairs as values
  pub pair_count : (ks : List Key) (vs : List V) → AreColumns ks vs → length (pairs_held ks vs) ≡ length vs
  pair_count ks vs h = by ks vs h.even
    where
      by : (ks : List Key) (vs : List V) → length ks ≡ length vs → length (pairs_held ks vs) ≡ length vs
      by [] [] e = refl
      by [] (v ∷ vs) e = absurd (omega arith)
      by (k ∷ ks) [] e = absurd (omega arith)
      by (k ∷ ks) (v ∷ vs) e = ap suc (by ks vs (omega arith))

  -- the pair at a place
  pub pair_at : (ks : List Key) (vs : List V) (i : ℕ) (k : Key) (v : V) → i < length ks → i < length vs → k ≡ get_or ks i k → v ≡ get_or vs i v
      → Some (key_form k, v) ≡ slice_get (pairs_held ks vs) i
  pair_at [] vs i k v in_keys in_values is_key is_value = absurd (omega arith)
  pair_at (x ∷ ks) [] i k v in_keys in_values is_key is_value = absurd (omega arith)
  pair_at (x ∷ ks) (w ∷ vs) zero k v in_keys in_values is_key is_value = λ j. Some (key_form (is_key j), is_value j)
  pair_at (x ∷ ks) (w ∷ vs) (suc i) k v in_keys in_values is_key is_value = pair_at ks vs i k v (omega arith) (omega arith) is_key is_value

  pub no_pair_at : (ks : List Key) (vs : List V) (i : ℕ) → length ks ≤ i → None ≡ slice_get (pairs_held ks vs) i
  no_pair_at [] vs i past = refl
  no_pair_at (x ∷ ks) [] i past = refl
  no_pair_at (x ∷ ks) (w ∷ vs) zero past = absurd (omega arith)
  no_pair_at (x ∷ ks) (w ∷ vs) (suc i) past = no_pair_at ks vs i (omega arith)

  -- what a look-up finds stands at the place of the key
  found_at : (k : Key) (ks : List Key) (vs : List V) (i : ℕ) (v : V) → length ks ≡ length vs → i < length ks → keys_tie k (get_or ks i k) ≡ true
      → ((j : ℕ) → j < i → keys_tie k (get_or ks j k) ≡ false) → v ≡ get_or vs i v
      → Some v ≡ value_at key_form_order (pairs_held ks vs) (key_form k)
  found_at k [] vs i v even below ties before is = absurd (omega arith)
  found_at k (x ∷ ks) [] i v even below ties before is = absurd (omega arith)
  found_at k (x ∷ ks) (w ∷ vs) zero v even below ties before is =
      ap Some is ∙ sym (ap (λ b. cond b (Some w) (value_at key_form_order (pairs_held ks vs) (key_form k))) ties)
  found_at k (x ∷ ks) (w ∷ vs) (suc i) v even below ties before is =
      found_at k ks vs i v (omega arith) (omega arith) ties (λ j less. before (suc j) (omega arith)) is
      ∙ sym (ap (λ b. cond b (Some w) (value_at key_form_order (pairs_held ks vs) (key_form k))) (before 0 (omega arith)))

  pub found : (k : Key) (ks : List Key) (vs : List V) (i : ℕ) (v : V) → AreColumns ks vs → Some i ≡ position (keys_tie k) ks → v ≡ get_or vs i v
      → Some v ≡ value_at key_form_order (pairs_held ks vs) (key_form k)
  found k ks vs i v h at is =
      let (below, ties, before) = position-Some (keys_tie k) ks i k (sym at) in
      found_at k ks vs i v h.even below ties before is

  -- nothing is found where no key is equal
  pub lost : (k : Key) (ks : List Key) (vs : List V) → list_any (keys_tie k) ks ≡ false
      → None ≡ value_at key_form_order (pairs_held ks vs) (key_form k)
  lost k [] vs none = refl
  lost k (x ∷ ks) [] none = refl
  lost k (x ∷ ks) (w ∷ vs) none =
      elim (keys_tie k x) as (λ b. (b || list_any (keys_tie k) ks) ≡ false
      → None ≡ cond b (Some w) (value_at key_form_order (pairs_held ks vs) (key_form k))) [
        | true ↦ λ no. cc
        | false ↦ λ no. lost k ks vs no
      ] none

  -- a value in the place of another
  put_at : (k : Key) (ks : List Key) (vs : List V) (i : ℕ) (w : V) → length ks ≡ length vs → i < length ks → keys_tie k (get_or ks i k) ≡ true
      → ((j : ℕ) → j < i → keys_tie k (get_or ks j k) ≡ false)
      → pairs_held ks (set vs i w) ≡ put key_form_order (pairs_held ks vs) (key_form k) w
  put_at k [] vs i w even below ties before = absurd (omega arith)
  put_at k (x ∷ ks) [] i w even below ties before = absurd (omega arith)
  put_at k (x ∷ ks) (v ∷ vs) zero w even below ties before =
      sym (ap (λ b. if b then (key_form x, w) ∷ pairs_held ks vs else (key_form x, v) ∷ put key_form_order (pairs_held ks vs) (key_form k) w) ties)
  put_at k (x ∷ ks) (v ∷ vs) (suc i) w even below ties before =
      ap (λ l. (key_form x, v) ∷ l) (put_at k ks vs i w (omega arith) (omega arith) ties (λ j less. before (suc j) (omega arith)))
      ∙ sym (ap (λ b. if b then (key_form x, w) ∷ pairs_held ks vs else (key_form x, v) ∷ put key_form_order (pairs_held ks vs) (key_form k) w)
      (before 0 (omega arith)))

  pub put_found : (k : Key) (ks : List Key) (vs : List V) (i : ℕ) (w : V) → AreColumns ks vs → Some i ≡ position (keys_tie k) ks
      → pairs_held ks (set vs i w) ≡ put key_form_order (pairs_held ks vs) (key_form k) w
  put_found k ks vs i w h at =
      let (below, ties, before) = position-Some (keys_tie k) ks i k (sym at) in
      put_at k ks vs i w h.even below ties before

  -- a pair behind the others
  pub put_new : (k : Key) (ks : List Key) (vs : List V) (w : V) → length ks ≡ length vs → list_any (keys_tie k) ks ≡ false
      → pairs_held (ks ++ k ∷ []) (vs ++ w ∷ []) ≡ put key_form_order (pairs_held ks vs) (key_form k) w
  put_new k [] [] w even none = refl
  put_new k [] (v ∷ vs) w even none = absurd (omega arith)
  put_new k (x ∷ ks) [] w even none = absurd (omega arith)
  put_new k (x ∷ ks) (v ∷ vs) w even none =
      elim (keys_tie k x) as (λ b. (b || list_any (keys_tie k) ks) ≡ false → (key_form x, v) ∷ pairs_held (ks ++ k ∷ []) (vs ++ w ∷ [])
      ≡ (if b then (key_form x, w) ∷ pairs_held ks vs else (key_form x, v) ∷ put key_form_order (pairs_held ks vs) (key_form k) w)) [
        | true ↦ λ no. cc
        | false ↦ λ no. ap (λ l. (key_form x, v) ∷ l) (put_new k ks vs w (omega arith) no)
      ] none

  -- where something is put, there is a pair
  pub put_some : (ps : List (KeyForm × V)) (k : KeyForm) (v : V) → put key_form_order ps k v ≢ []
  put_some [] k v = λ e. cc
  put_some (p ∷ ps) k v =
      elim (eq_by_cmp key_form_order k p.0) as (λ b. (if b then (p.0, v) ∷ ps else p ∷ put key_form_order ps k v) ≢ []) [
        | true ↦ λ e. cc
        | false ↦ λ e. cc
      ]

  -- the keys of pairs are distinct
  differs : (k : Key) (ks : List Key) (vs : List V) → AllByRecursion (λ y. keys_tie k y ≡ false) ks
      → AllByRecursion (λ y. eq_by_cmp key_form_order (key_form k) y ≡ false) (keys_of (pairs_held ks vs))
  differs k [] vs h = tt
  differs k (x ∷ ks) [] h = tt
  differs k (x ∷ ks) (v ∷ vs) h = (h.0, differs k ks vs h.1)

  pub distinct_pairs : (ks : List Key) (vs : List V) → IsDistinct keys_tie ks → HasDistinctKeys key_form_order (pairs_held ks vs)
  unfolding IsDistinct
  distinct_pairs [] vs h = tt
  distinct_pairs (x ∷ ks) [] h = tt
  distinct_pairs (x ∷ ks) (v ∷ vs) h = (differs x ks vs h.0, distinct_pairs ks vs h.1)

-- what a count says, and what a look-up does
pub ruleset counted = (pair_count, distinct_pairs)

pub ruleset looked_up = (found, lost)
