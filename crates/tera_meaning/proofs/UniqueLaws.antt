-- A pair list has just the entries, and is the only rising list that has.
use Rattle.std.proofs.lemmas.Option.{none-some}
use Rattle.std.specs.Prelude.{◌≡◌, ◌↔◌, ◌⊎◌, suc, length, false, cond, List, [], ◌∷◌, Some, None, refl}
use Rattle.std.proofs.Common.{sym, ◌∙◌, ap, inl, inr, rules}
use Rattle.std.specs.BTreeMap.{insert_entry}
use Rattle.std.specs.Cmp.{IsTotalOrder, eq_by_cmp_equiv}
use Rattle.std.specs.List.{Contains, IsDistinct, AllByRecursion}
use Rattle.std.specs.List.Sorted.{IsStrictlySortedBy, IsPermutation}
use Rattle.std.specs.Map.{keys_of}
use Rattle.std.specs.Ordering.{eq_by_cmp, is_eq, match_ordering}
use Rattle.std.specs.declared.cmp.Ordering.{Ordering}
use Rattle.std.specs.declared.cmp.Ordering.TheVariants.{Less, Equal, Greater}
use Rattle.std.proofs.lemmas.List.Sorted.{IsPermutation-refl, IsPermutation-sym, IsPermutation-trans, IsPermutation-cons, IsPermutation-insert}
use Rattle.std.proofs.lemmas.List.Sorted.{Contains-permutation, IsPermutation-map}
use Rattle.std.proofs.lemmas.Map.Keys.{IsDistinct-IsPermutation}
use Rattle.tera_meaning.proofs.Among.{Among, among, contained}
use Rattle.tera_meaning.specs.Pairs.{Rises, HasDistinctKeys, rising, value_at}
use Rattle.tera_meaning.proofs.PairLaws.{Below, rising_rises, found_rising}

module _ {K V : Type 0} (order : K → K → Ordering) (total : IsTotalOrder order) where
  below_among : (k : K) (es : List (K × V)) (e : K × V) → Below order k es → Among es e → order k e.0 ≡ Less
  below_among k [] e h a = absurd a
  below_among k (x ∷ xs) e h (inl is) = ap (λ y. order k y.0) is ∙ h.0
  below_among k (x ∷ xs) e h (inr a) = below_among k xs e h.1 a

  -- two heads, each of which is among the other's list
  one_head : (p q : K × V) (ps qs : List (K × V)) → Below order p.0 ps → Below order q.0 qs → (p ≡ q) ⊎ Among qs p → (q ≡ p) ⊎ Among ps q → p ≡ q
  one_head p q ps qs h g x6 b = search (rules, below_among)

  -- what is above the one head is among the other's tail
  later : (p q e : K × V) (qs : List (K × V)) → order p.0 e.0 ≡ Less → p ≡ q → (e ≡ q) ⊎ Among qs e → Among qs e
  later p q e qs m is x6 = search rules

  one_list : (ps qs : List (K × V)) → Rises order ps → Rises order qs → ((e : K × V) → Among ps e → Among qs e) → ((e : K × V) → Among qs e → Among ps e) → ps
      ≡ qs
  unfolding IsStrictlySortedBy
  one_list [] [] h g there back = refl
  one_list [] (q ∷ qs) h g there back = absurd (back q (inl refl))
  one_list (p ∷ ps) [] h g there back = absurd (there p (inl refl))
  one_list (p ∷ ps) (q ∷ qs) h g there back =
      let head : p ≡ q = one_head p q ps qs h.0 g.0 (there p (inl refl)) (back q (inl refl)) in
      let tail : ps ≡ qs = one_list ps qs h.1 g.1
      (λ e a. later p q e qs (below_among p.0 ps e h.0 a) head (there e (inr a)))
      (λ e a. later q p e ps (below_among q.0 qs e g.0 a) (sym head) (back e (inr a))) in
      λ i. head i ∷ tail i

  -- ---- the entries of a pair list

  insert_permutes : (k : K) (v : V) (es : List (K × V)) → value_at order es k ≡ None → IsPermutation ((k, v) ∷ es) (insert_entry order es k v)
  insert_permutes k v [] none = IsPermutation-refl ((k, v) ∷ [])
  insert_permutes k v (e ∷ es) none =
      elim (order k e.0) as (λ r. cond (is_eq r) (Some e.1) (value_at order es k) ≡ None
      → IsPermutation ((k, v) ∷ e ∷ es) (match_ordering r ((k, v) ∷ e ∷ es) ((e.0, v) ∷ es) (e ∷ insert_entry order es k v))) [
        | Less ↦ λ n. IsPermutation-refl ((k, v) ∷ e ∷ es)
        | Equal ↦ λ n. absurd (none-some e.1 (sym n))
        | Greater ↦ λ n. IsPermutation-trans ((k, v) ∷ e ∷ es) (e ∷ (k, v) ∷ es) (e ∷ insert_entry order es k v)
            (IsPermutation-insert (e ∷ es) 1 (k, v))
            (IsPermutation-cons e ((k, v) ∷ es) (insert_entry order es k v) (insert_permutes k v es n))
      ] none

  none_tied : (k : K) (es : List (K × V)) → AllByRecursion (λ l. eq_by_cmp order k l ≡ false) (keys_of es) → value_at order es k ≡ None
  none_tied k [] h = refl
  none_tied k (e ∷ es) h = ap (λ b. cond b (Some e.1) (value_at order es k)) h.0 ∙ none_tied k es h.1

  insert_longer : (k : K) (v : V) (es : List (K × V)) → value_at order es k ≡ None → length (insert_entry order es k v) ≡ suc (length es)
  insert_longer k v [] none = refl
  insert_longer k v (e ∷ es) none = search (rules, none-some, (insert_longer k v es))

  -- a pair list is as long as its entries are many
  pub rising_length : (es : List (K × V)) → HasDistinctKeys order es → length (rising order es) ≡ length es
  unfolding IsDistinct
  rising_length [] h = refl
  rising_length (e ∷ es) h = search (rules, insert_longer, found_rising, none_tied, (rising_length es h.1))

  pub rising_permutes : (es : List (K × V)) → HasDistinctKeys order es → IsPermutation es (rising order es)
  unfolding IsDistinct
  rising_permutes [] h = IsPermutation-refl []
  rising_permutes (e ∷ es) h =
      IsPermutation-trans (e ∷ es) (e ∷ rising order es) (rising order (e ∷ es))
      (IsPermutation-cons e es (rising order es) (rising_permutes es h.1))
      (insert_permutes e.0 e.1 (rising order es) (found_rising order total es e.0 ∙ none_tied e.0 es h.0))

  pub rising_has : (es : List (K × V)) (e : K × V) → HasDistinctKeys order es → Contains (rising order es) e ↔ Contains es e
  rising_has es e h = search (rules, Contains-permutation, IsPermutation-sym, rising_permutes)

  pub only_rising : (es ps : List (K × V)) → HasDistinctKeys order es → Rises order ps → ((e : K × V) → Contains ps e ↔ Contains es e) → ps ≡ rising order es
  only_rising es ps h rises has =
      one_list ps (rising order es) rises (rising_rises order total es)
      (λ e a. among (rising order es) e ((rising_has es e h).1 ((has e).0 (contained ps e a))))
      (λ e a. among ps e ((has e).1 ((rising_has es e h).0 (contained (rising order es) e a))))

  pub rising_permuted : (es fs : List (K × V)) → HasDistinctKeys order es → HasDistinctKeys order fs → IsPermutation es fs → rising order es ≡ rising order fs
  rising_permuted es fs h g same =
      only_rising fs (rising order es) g (rising_rises order total es) (λ e. (
        λ a. Contains-permutation es fs e same ((rising_has es e h).0 a),
        λ a. (rising_has es e h).1
            (Contains-permutation fs es e (IsPermutation-sym es fs same) a),
      ))

  pub same_rising : (es fs : List (K × V)) → HasDistinctKeys order es → IsPermutation es fs → rising order es ≡ rising order fs
  same_rising es fs h same =
      let turned = IsPermutation-map (λ e. e.0) es fs same in
      rising_permuted es fs h (IsDistinct-IsPermutation (eq_by_cmp order) (eq_by_cmp_equiv total).symm (keys_of es) (keys_of fs) turned h) same
