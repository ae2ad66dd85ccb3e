-- Pair lists rise, hold just their entries, and are ordered by the least key at which they differ.
use Rattle.std.specs.Prelude.{◌≡◌, ◌||◌, Bool, true, cond, List, [], ◌∷◌, Some, refl}
use Rattle.std.proofs.Common.{◌∙◌, ap, rules}
use Rattle.std.specs.BTreeMap.{insert_entry}
use Rattle.std.specs.Cmp.{IsTotalOrder, alike_right}
use Rattle.std.specs.List.{AllByRecursion}
use Rattle.std.specs.List.Sorted.{IsStrictlySortedBy}
use Rattle.std.specs.Map.{keys_of}
use Rattle.std.specs.Ordering.{ordering_reverse, eq_by_cmp, is_lt, match_ordering}
use Rattle.std.specs.declared.cmp.Ordering.{Ordering}
use Rattle.std.specs.declared.cmp.Ordering.TheVariants.{Less, Equal, Greater}
use Rattle.tera_meaning.specs.Pairs.{Rises, rising, value_at, goes_on}

or_twice : (a b : Bool) → (a || b) ≡ (a || (a || b))
or_twice x0 b = search rules

or_turned : (a b c : Bool) → (a || (b || c)) ≡ (b || (a || c))
or_turned x0 b c = search rules

pub shadowed : {X : Type 0} (b : Bool) (x y z : X) → cond b x z ≡ cond b x (cond b y z)
shadowed x0 x y z = search rules

pub swapped : {X : Type 0} (a b : Bool) (x y z : X) → (a ≡ true → b ≡ true → ⊥)
    → cond a x (cond b y z) ≡ cond b y (cond a x z)
swapped x0 b x y z apart = search rules

equal_greater : Equal ≡ Greater → ⊥
equal_greater e = cc

module _ {K : Type 0} (order : K → K → Ordering) (total : IsTotalOrder order) where
  pub turned : (k l : K) → order k l ≡ Greater → order l k ≡ Less
  turned k l p = total.antisymm l k ∙ ap ordering_reverse p

  -- two keys that both tie with a third tie
  pub joined : (q k l : K) → eq_by_cmp order q k ≡ true → eq_by_cmp order q l ≡ true → order k l ≡ Equal
  joined q k l a b = search rules

-- ---- the entries in their places

-- a key is less than each key of the list
abbrev pub Below : {K V : Type 0} → (K → K → Ordering) → K → List (K × V) → Type 0
Below order k es = AllByRecursion (λ l. order k l ≡ Less) (keys_of es)

module _ {K V : Type 0} (order : K → K → Ordering) (total : IsTotalOrder order) where
  pub below_less : (k l : K) (es : List (K × V)) → order k l ≡ Less → Below order l es → Below order k es
  below_less k l [] p h = tt
  below_less k l (e ∷ es) p h = (total.trans k l e.0 p h.0, below_less k l es p h.1)

  pub below_tied : (k l : K) (es : List (K × V)) → order k l ≡ Equal → Below order l es → Below order k es
  below_tied k l [] p h = tt
  below_tied k l (e ∷ es) p h = (total.congr k l e.0 p ∙ h.0, below_tied k l es p h.1)

  below_insert : (k l : K) (v : V) (es : List (K × V)) → order k l ≡ Less → Below order k es → Below order k (insert_entry order es l v)
  below_insert k l v [] p h = (p, tt)
  below_insert k l v (e ∷ es) p h = search (rules, (below_insert k l v es p h.1))

  insert_rises : (k : K) (v : V) (es : List (K × V)) → Rises order es → Rises order (insert_entry order es k v)
  unfolding IsStrictlySortedBy
  insert_rises k v [] h = (tt, tt)
  insert_rises k v (e ∷ es) h = search (rules, below_less, below_insert, turned, (insert_rises k v es h.1))

  pub rising_rises : (es : List (K × V)) → Rises order (rising order es)
  unfolding IsStrictlySortedBy
  rising_rises [] = tt
  rising_rises (e ∷ es) = insert_rises e.0 e.1 (rising order es) (rising_rises es)

  found_insert : (q k : K) (v : V) (es : List (K × V)) → value_at order (insert_entry order es k v) q
      ≡ cond (eq_by_cmp order q k) (Some v) (value_at order es q)
  found_insert q k v [] = refl
  found_insert q k v (e ∷ es) = search (rules, shadowed, alike_right, swapped, equal_greater, joined, (found_insert q k v es))

  -- what is below all entries goes before them, so a list that rises is its own rising list
  insert_first : (k : K) (v : V) (es : List (K × V)) → Below order k es → insert_entry order es k v ≡ (k, v) ∷ es
  insert_first k v [] h = refl
  insert_first k v (e ∷ es) h = ap (λ r. match_ordering r ((k, v) ∷ e ∷ es) ((e.0, v) ∷ es) (e ∷ insert_entry order es k v)) h.0

  pub rising_itself : (es : List (K × V)) → Rises order es → rising order es ≡ es
  unfolding IsStrictlySortedBy
  rising_itself [] h = refl
  rising_itself (e ∷ es) h = ap (λ qs. insert_entry order qs e.0 e.1) (rising_itself es h.1) ∙ insert_first e.0 e.1 es h.0

  -- a look-up in the pair list is one in the entries
  pub found_rising : (es : List (K × V)) (q : K) → value_at order (rising order es) q ≡ value_at order es q
  found_rising [] q = refl
  found_rising (e ∷ es) q = found_insert q e.0 e.1 (rising order es) ∙ ap (cond (eq_by_cmp order q e.0) (Some e.1)) (found_rising es q)

  more_insert : (q k : K) (v : V) (es : List (K × V)) → goes_on order (insert_entry order es k v) q ≡ (is_lt (order q k) || goes_on order es q)
  more_insert q k v [] = refl
  more_insert q k v (e ∷ es) = search (rules, or_twice, alike_right, or_turned, (more_insert q k v es))

  -- and it has a greater key where the entries have one
  pub more_rising : (es : List (K × V)) (q : K) → goes_on order (rising order es) q ≡ goes_on order es q
  more_rising [] q = refl
  more_rising (e ∷ es) q = more_insert q e.0 e.1 (rising order es) ∙ ap (λ b. is_lt (order q e.0) || b) (more_rising es q)
