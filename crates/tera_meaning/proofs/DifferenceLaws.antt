-- Two rising lists are ordered as they stand at the least key at which they differ.
use Rattle.std.specs.Prelude.{◌≡◌, ◌≢◌, ◌↔◌, ◌⊎◌, ◌||◌, Bool, true, false, cond, List, [], ◌∷◌, Option, Some, None, refl}
use Rattle.std.proofs.Common.{sym, ◌∙◌, ap, inl, inr, subst, rules}
use Rattle.std.proofs.lemmas.Bool.{true≢false}
use Rattle.std.specs.Cmp.{IsTotalOrder, tied_itself, alike_right, Equal-is}
use Rattle.std.specs.Cmp.Lexicographic.{slice_cmp}
use Rattle.std.specs.List.{AllByRecursion}
use Rattle.std.specs.List.Sorted.{IsStrictlySortedBy}
use Rattle.std.specs.Option.{option_eq}
use Rattle.std.specs.Ordering.{ordering_then, eq_by_cmp, is_lt, is_eq}
use Rattle.std.specs.declared.cmp.Ordering.{Ordering}
use Rattle.std.specs.declared.cmp.Ordering.TheVariants.{Less, Equal, Greater}
use Rattle.tera_meaning.specs.Pairs.{Rises, rising, value_at, goes_on, entry_order, agree_at, AgreeEverywhere, IsLeastDifference, by_values, order_at}
use Rattle.tera_meaning.proofs.PairLaws.{turned, Below, below_less, below_tied, rising_rises, found_rising, more_rising}

module _ {K V : Type 0} (order : K → K → Ordering) (total : IsTotalOrder order) where
  below_none : (k : K) (es : List (K × V)) → Below order k es → value_at order es k ≡ None
  below_none k [] h = refl
  below_none k (e ∷ es) h = ap (λ r. cond (is_eq r) (Some e.1) (value_at order es k)) h.0 ∙ below_none k es h.1

  skipped : (k : K) (e : K × V) (es : List (K × V)) → order k e.0 ≡ Greater → value_at order (e ∷ es) k ≡ value_at order es k
  skipped k e es p = ap (λ r. cond (is_eq r) (Some e.1) (value_at order es k)) p

  hit : (k : K) (e : K × V) (es : List (K × V)) → order k e.0 ≡ Equal → value_at order (e ∷ es) k ≡ Some e.1
  hit k e es p = ap (λ r. cond (is_eq r) (Some e.1) (value_at order es k)) p

  -- a key that is no greater than the first
  missed : (k : K) (e : K × V) (es : List (K × V)) → order k e.0 ≡ Less → Below order e.0 es → value_at order (e ∷ es) k ≡ None
  missed k e es p h = ap (λ r. cond (is_eq r) (Some e.1) (value_at order es k)) p ∙ below_none k es (below_less order total k e.0 es p h)

  more_at : (k : K) (e : K × V) (es : List (K × V)) → order k e.0 ≡ Less → goes_on order (e ∷ es) k ≡ true
  more_at k e es p = ap (λ r. is_lt r || goes_on order es k) p

  more_skipped : (k : K) (e : K × V) (es : List (K × V)) → order k e.0 ≡ Greater → goes_on order (e ∷ es) k ≡ goes_on order es k
  more_skipped k e es p = ap (λ r. is_lt r || goes_on order es k) p

  -- look-ups by keys that tie
  found_tied : (k l : K) (es : List (K × V)) → order k l ≡ Equal → value_at order es k ≡ value_at order es l
  found_tied k l x2 p = search rules

  more_tied : (k l : K) (es : List (K × V)) → order k l ≡ Equal → goes_on order es k ≡ goes_on order es l
  more_tied k l x2 p = search rules

  module _ (values : V → V → Ordering) where
    neither : (ps qs : List (K × V)) (k : K) → value_at order ps k ≡ None → value_at order qs k ≡ None → agree_at order values ps qs k ≡ true
    neither ps qs k a b = λ i. option_eq (eq_by_cmp values) (a i) (b i)

    agree_tied : (ps qs : List (K × V)) (k l : K) → order k l ≡ Equal → agree_at order values ps qs k ≡ agree_at order values ps qs l
    agree_tied ps qs k l p = search rules

    decides : (ps qs : List (K × V)) (k : K) (x y : Option V) (a b : Bool) → value_at order ps k ≡ x → value_at order qs k ≡ y
        → goes_on order ps k ≡ a → goes_on order qs k ≡ b → order_at order values ps qs k ≡ by_values order values x y a b
    decides ps qs k x y a b f g m n = λ i. by_values order values (f i) (g i) (m i) (n i)

    -- two keys at which two lists differ, and at no lesser one, tie
    one_least : (ps qs : List (K × V)) (k l : K) → IsLeastDifference order values ps qs k → IsLeastDifference order values ps qs l → order k l ≡ Equal
    one_least ps qs k l h g = search rules

    at_values : (r s : Ordering) → is_eq r ≡ false → ordering_then r s ≡ r
    at_values x0 s e = search rules

    -- where two options differ, what decides between them is not Equal
    differing : (x y : Option V) (a b : Bool) → option_eq (eq_by_cmp values) x y ≡ false → by_values order values x y a b ≢ Equal
    differing x0 x1 a b e is = search rules

    -- ---- two rising lists agree everywhere and tie, or are ordered as they stand at the least key at which they differ

    Outcome : List (K × V) → List (K × V) → Ordering → Type 0
    Outcome ps qs r = (AgreeEverywhere order values ps qs × (r ≡ Equal))
        ⊎ ((k : K) × IsLeastDifference order values ps qs k × (r ≡ order_at order values ps qs k))

    -- no key of either list is less than d, at which they differ
    least_at : (ps qs : List (K × V)) (d : K) (r : Ordering) (x y : Option V) → value_at order ps d ≡ x → value_at order qs d ≡ y
        → option_eq (eq_by_cmp values) x y ≡ false
        → ((l : K) → order l d ≡ Less → (value_at order ps l ≡ None) × (value_at order qs l ≡ None))
        → by_values order values x y (goes_on order ps d) (goes_on order qs d) ≡ r → Outcome ps qs r
    unfolding Outcome
    least_at ps qs d r x y f g differ under is = search (rules, neither, decides)

    module _ (p q : K × V) (ps qs : List (K × V)) (h : Rises order (p ∷ ps)) (g : Rises order (q ∷ qs)) where
      first_left : order p.0 q.0 ≡ Less → Outcome (p ∷ ps) (q ∷ qs) Less
      unfolding IsStrictlySortedBy
      first_left e = least_at (p ∷ ps) (q ∷ qs) p.0 Less (Some p.1) None (hit p.0 p ps (tied_itself total p.0)) (missed p.0 q qs e g.0) refl
          (λ l m. (missed l p ps m h.0, missed l q qs (total.trans l p.0 q.0 m e) g.0))
          (ap (λ (b : Bool). cond b Less Greater) (more_at p.0 q qs e))

      first_right : order p.0 q.0 ≡ Greater → Outcome (p ∷ ps) (q ∷ qs) Greater
      unfolding IsStrictlySortedBy
      first_right e =
          let less : order q.0 p.0 ≡ Less = turned order total p.0 q.0 e in
          least_at (p ∷ ps) (q ∷ qs) q.0 Greater None (Some q.1) (missed q.0 p ps less h.0) (hit q.0 q qs (tied_itself total q.0)) refl
          (λ l m. (missed l p ps (total.trans l q.0 p.0 m less) h.0, missed l q qs m g.0))
          (ap (λ (b : Bool). cond b Greater Less) (more_at q.0 p ps less))

      module _ (e : order p.0 q.0 ≡ Equal) where
        other : (l : K) (r : Ordering) → order l p.0 ≡ r → order l q.0 ≡ r
        other l r n = sym (alike_right total p.0 q.0 l e) ∙ n

        under_heads : (l : K) → order l p.0 ≡ Less → (value_at order (p ∷ ps) l ≡ None) × (value_at order (q ∷ qs) l ≡ None)
        unfolding IsStrictlySortedBy
        under_heads l m = (missed l p ps m h.0, missed l q qs (other l Less m) g.0)

        first_values : is_eq (values p.1 q.1) ≡ false → Outcome (p ∷ ps) (q ∷ qs) (values p.1 q.1)
        first_values differ = least_at (p ∷ ps) (q ∷ qs) p.0 (values p.1 q.1) (Some p.1) (Some q.1) (hit p.0 p ps (tied_itself total p.0)) (hit p.0 q qs e)
            differ under_heads refl

        -- above the heads the two lists differ where their tails do, and where the heads tie whole, nowhere else
        tail_at : (l : K) → order l p.0 ≡ Greater → agree_at order values (p ∷ ps) (q ∷ qs) l ≡ agree_at order values ps qs l
        tail_at l n = λ i. option_eq (eq_by_cmp values) (skipped l p ps n i) (skipped l q qs (other l Greater n) i)

        agree_more : is_eq (values p.1 q.1) ≡ true → (l : K) → (order l p.0 ≡ Greater → agree_at order values ps qs l ≡ true)
            → agree_at order values (p ∷ ps) (q ∷ qs) l ≡ true
        agree_more same l f =
            elim (order l p.0) as (λ r. order l p.0 ≡ r → agree_at order values (p ∷ ps) (q ∷ qs) l ≡ true) [
              | Less ↦ λ n. neither (p ∷ ps) (q ∷ qs) l (under_heads l n).0 (under_heads l n).1
              | Equal ↦ λ n. (λ i. option_eq (eq_by_cmp values) (hit l p ps n i) (hit l q qs (other l Equal n) i)) ∙ same
              | Greater ↦ λ n. tail_at l n ∙ f n
            ] refl

        differ_above : (k : K) → agree_at order values ps qs k ≡ false → order k p.0 ≡ Greater
        unfolding IsStrictlySortedBy
        differ_above k differs =
            elim (order k p.0) as (λ r. order k p.0 ≡ r → r ≡ Greater) [
              | Less ↦ λ n. absurd (true≢false (sym (neither ps qs k (below_none k ps (below_less order total k p.0 ps n h.0))
                  (below_none k qs (below_less order total k q.0 qs (other k Less n) g.0))) ∙ differs))
              | Equal ↦ λ n. absurd (true≢false (sym (neither ps qs k (below_none k ps (below_tied order total k p.0 ps n h.0))
                  (below_none k qs (below_tied order total k q.0 qs (other k Equal n) g.0))) ∙ differs))
              | Greater ↦ λ n. refl
            ] refl

        first_more : is_eq (values p.1 q.1) ≡ true → (r : Ordering) → Outcome ps qs r → Outcome (p ∷ ps) (q ∷ qs) r
        unfolding Outcome
        first_more same r (inl (agree, is)) = inl (λ l. agree_more same l (λ n. agree l), is)
        first_more same r (inr (k, (differs, lesser), is)) =
            let m : order k p.0 ≡ Greater = differ_above k differs in
            let n : order k q.0 ≡ Greater = other k Greater m in
            inr (
              k,
              (tail_at k m ∙ differs, λ l n. agree_more same l (λ o. lesser l n)),
              is ∙ sym (decides (p ∷ ps) (q ∷ qs) k (value_at order ps k) (value_at order qs k) (goes_on order ps k) (goes_on order qs k) (skipped k p ps m)
                  (skipped k q qs n) (more_skipped k p ps m) (more_skipped k q qs n)),
            )

    outcome : (ps qs : List (K × V)) → Rises order ps → Rises order qs → Outcome ps qs (slice_cmp (entry_order order values) ps qs)
    unfolding IsStrictlySortedBy Outcome
    outcome [] [] h g = inl (λ k. refl, refl)
    outcome [] (q ∷ qs) h g = least_at [] (q ∷ qs) q.0 Less None (Some q.1) refl (hit q.0 q qs (tied_itself total q.0)) refl
        (λ l m. (refl, missed l q qs m g.0)) refl
    outcome (p ∷ ps) [] h g = least_at (p ∷ ps) [] p.0 Greater (Some p.1) None (hit p.0 p ps (tied_itself total p.0)) refl refl
        (λ l m. (missed l p ps m h.0, refl)) refl
    outcome (p ∷ ps) (q ∷ qs) h g =
        elim (order p.0 q.0) as (λ r. order p.0 q.0 ≡ r
        → Outcome (p ∷ ps) (q ∷ qs) (ordering_then (ordering_then r (values p.1 q.1)) (slice_cmp (entry_order order values) ps qs))) [
          | Less ↦ λ e. first_left p q ps qs h g e
          | Equal ↦ λ e. elim (is_eq (values p.1 q.1)) as (λ b. is_eq (values p.1 q.1) ≡ b
              → Outcome (p ∷ ps) (q ∷ qs) (ordering_then (values p.1 q.1) (slice_cmp (entry_order order values) ps qs))) [
                | true ↦ λ s. subst (Outcome (p ∷ ps) (q ∷ qs))
                    (ap (λ r. ordering_then r (slice_cmp (entry_order order values) ps qs)) (sym ((Equal-is (values p.1 q.1)).0 s)))
                    (first_more p q ps qs h g e s (slice_cmp (entry_order order values) ps qs) (outcome ps qs h.1 g.1))
                | false ↦ λ s. subst (Outcome (p ∷ ps) (q ∷ qs)) (sym (at_values (values p.1 q.1) (slice_cmp (entry_order order values) ps qs) s))
                    (first_values p q ps qs h g e s)
              ] refl
          | Greater ↦ λ e. first_right p q ps qs h g e
        ] refl

    module _ (ps qs : List (K × V)) where
      decided : (r : Ordering) → Outcome ps qs r → (k : K) → IsLeastDifference order values ps qs k → r ≡ order_at order values ps qs k
      unfolding Outcome
      decided r (inl (agree, is)) k least = absurd (true≢false (sym (agree k) ∙ least.0))
      decided r (inr (l, other, is)) k least =
          let tie : order l k ≡ Equal = one_least ps qs l k other least in
          is ∙ decides ps qs l (value_at order ps k) (value_at order qs k) (goes_on order ps k) (goes_on order qs k) (found_tied l k ps tie)
          (found_tied l k qs tie) (more_tied l k ps tie) (more_tied l k qs tie)

      pub difference_decides : (k : K) → Rises order ps → Rises order qs → IsLeastDifference order values ps qs k
          → slice_cmp (entry_order order values) ps qs ≡ order_at order values ps qs k
      difference_decides k h g least = decided (slice_cmp (entry_order order values) ps qs) (outcome ps qs h g) k least

      tied : (r : Ordering) → Outcome ps qs r → AgreeEverywhere order values ps qs ↔ (r ≡ Equal)
      unfolding Outcome
      tied r (inl (agree, is)) = (λ a. is, λ e. agree)
      tied r (inr (k, (differs, lesser), is)) = (
        λ a. absurd (true≢false (sym (a k) ∙ differs)),
        λ e. absurd (differing (value_at order ps k) (value_at order qs k) (goes_on order ps k) (goes_on order qs k) differs (sym is ∙ e)),
      )

      -- lists that agree everywhere tie, and only they
      pub agreeing_tie : Rises order ps → Rises order qs → AgreeEverywhere order values ps qs ↔ (slice_cmp (entry_order order values) ps qs ≡ Equal)
      agreeing_tie h g = tied (slice_cmp (entry_order order values) ps qs) (outcome ps qs h g)

      pub least_or_none : Rises order ps → Rises order qs
          → AgreeEverywhere order values ps qs ⊎ ((k : K) × IsLeastDifference order values ps qs k)
      unfolding Outcome
      least_or_none h g = elim (outcome ps qs h g) as (λ _. AgreeEverywhere order values ps qs ⊎ ((k : K) × IsLeastDifference order values ps qs k)) [
        | inl agree ↦ inl agree.0
        | inr least ↦ inr (least.0, least.1)
      ]

    -- ---- the entries in whatever order they stand

    pub agree_rising : (es fs : List (K × V)) (k : K) → agree_at order values (rising order es) (rising order fs) k ≡ agree_at order values es fs k
    agree_rising es fs k = λ i. option_eq (eq_by_cmp values) (found_rising order total es k i) (found_rising order total fs k i)

    order_rising : (es fs : List (K × V)) (k : K) → order_at order values (rising order es) (rising order fs) k ≡ order_at order values es fs k
    order_rising es fs k = search (rules, found_rising, more_rising)

    pub entries_decide : (es fs : List (K × V)) (k : K) → IsLeastDifference order values es fs k
        → slice_cmp (entry_order order values) (rising order es) (rising order fs) ≡ order_at order values es fs k
    entries_decide es fs k least =
        difference_decides (rising order es) (rising order fs) k (rising_rises order total es) (rising_rises order total fs)
        (agree_rising es fs k ∙ least.0, λ l m. agree_rising es fs l ∙ least.1 l m)
        ∙ order_rising es fs k

    pub entries_tie : (es fs : List (K × V)) → AgreeEverywhere order values es fs
        ↔ (slice_cmp (entry_order order values) (rising order es) (rising order fs) ≡ Equal)
    entries_tie es fs =
        let ties = agreeing_tie (rising order es) (rising order fs) (rising_rises order total es) (rising_rises order total fs) in
        (λ agree. ties.0 (λ k. agree_rising es fs k ∙ agree k), λ e k. sym (agree_rising es fs k) ∙ ties.1 e k)

    -- ---- found by a walk over each

    module _ (es fs : List (K × V)) where
      -- what the keys of a list that are less than k agree on, any lesser key does that it has
      walked : (k : K) (xs : List (K × V)) → AllByRecursion (λ e. order e.0 k ≡ Less → agree_at order values es fs e.0 ≡ true) xs → (l : K) → order l k
          ≡ Less
          → (value_at order xs l ≡ None) ⊎ (agree_at order values es fs l ≡ true)
      walked k [] h l m = inl refl
      walked k (x ∷ xs) h l m =
          elim (is_eq (order l x.0)) as (λ b. is_eq (order l x.0) ≡ b → (cond b (Some x.1) (value_at order xs l) ≡ None)
          ⊎ (agree_at order values es fs l ≡ true)) [
            | true ↦ λ t. let tie : order l x.0 ≡ Equal = (Equal-is (order l x.0)).0 t in
                inr (agree_tied es fs l x.0 tie ∙ h.0 (sym (total.congr l x.0 k tie) ∙ m))
            | false ↦ λ t. walked k xs h.1 l m
          ] refl

      everywhere : (xs : List (K × V)) → AllByRecursion (λ e. agree_at order values es fs e.0 ≡ true) xs → (l : K) → (value_at order xs l ≡ None)
          ⊎ (agree_at order values es fs l ≡ true)
      everywhere [] h l = inl refl
      everywhere (x ∷ xs) h l =
          elim (is_eq (order l x.0)) as (λ b. is_eq (order l x.0) ≡ b → (cond b (Some x.1) (value_at order xs l) ≡ None)
          ⊎ (agree_at order values es fs l ≡ true)) [
            | true ↦ λ t. inr (agree_tied es fs l x.0 ((Equal-is (order l x.0)).0 t) ∙ h.0)
            | false ↦ λ t. everywhere xs h.1 l
          ] refl

      joins : (l : K) → (value_at order es l ≡ None) ⊎ (agree_at order values es fs l ≡ true) → (value_at order fs l ≡ None)
          ⊎ (agree_at order values es fs l ≡ true) → agree_at order values es fs l ≡ true
      joins l (inl a) (inl b) = neither es fs l a b
      joins l (inl a) (inr b) = b
      joins l (inr a) b = a

      pub least_walked : (k : K) → agree_at order values es fs k ≡ false
          → AllByRecursion (λ e. order e.0 k ≡ Less → agree_at order values es fs e.0 ≡ true) es
          → AllByRecursion (λ e. order e.0 k ≡ Less → agree_at order values es fs e.0 ≡ true) fs
          → IsLeastDifference order values es fs k
      least_walked k differs h g = (differs, λ l m. joins l (walked k es h l m) (walked k fs g l m))

      pub all_walked : AllByRecursion (λ e. agree_at order values es fs e.0 ≡ true) es → AllByRecursion (λ e. agree_at order values es fs e.0 ≡ true) fs
          → AgreeEverywhere order values es fs
      all_walked h g l = joins l (everywhere es h l) (everywhere fs g l)
