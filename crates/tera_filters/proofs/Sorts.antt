-- A list in order that keeps those that tie as they stood is the one that the definition gives.
use Rattle.std.specs.Prelude.{◌≡◌, ⊤, zero, suc, ◌+◌, Bool, true, false, cond, not, ◌&&◌, List, [], ◌∷◌, refl}
use Rattle.std.specs.Cmp.{IsStrictWeakOrder}
use Rattle.std.specs.List.{AllByRecursion, filter}
use Rattle.std.specs.List.Sorted.{IsSortedBy, IsStableBy, ties}
use Rattle.std.proofs.Common.{ap, sym, subst, ◌∙◌, get_or, arith}
use Rattle.std.proofs.lemmas.List.Sorted.{IsPermutation-cons, IsPermutation-middle, IsPermutation-trans, ranks_by}
use Rattle.std.specs.List.Sorted.{IsPermutation, IsSorted, IsStable}
use Rattle.std.specs.Ordering.{on}
use Rattle.tera.proofs.OrderLaws.{compare_total}
use Rattle.tera.specs.Form.{Form}
use Rattle.tera.specs.Meaning.{meaning}
use Rattle.tera.specs.Order.{compare}
use Rattle.tera_filters.specs.Arrays.{is_less}
use Rattle.tera_filters.specs.Sorting.{in_order, placed}

module _ {X : Type 0} where
  either : (P : List X → Type 0) (b : Bool) (xs ys : List X) → P xs → P ys → P (cond b xs ys)
  either P true xs ys one other = one
  either P false xs ys one other = other

  swapped : (x y : X) (l : List X) (a b : Bool) → (a ≡ true → b ≡ true → false ≡ true)
      → cond b (y ∷ cond a (x ∷ l) l) (cond a (x ∷ l) l) ≡ cond a (x ∷ cond b (y ∷ l) l) (cond b (y ∷ l) l)
  swapped x y l true true not_both = absurd (let wrong = not_both refl refl in cc)
  swapped x y l true false not_both = refl
  swapped x y l false true not_both = refl
  swapped x y l false false not_both = refl

  tails : (b : Bool) (y z : X) (ys zs : List X) → cond b (y ∷ ys) ys ≡ cond b (z ∷ zs) zs → ys ≡ zs
  tails true y z ys zs same = cc
  tails false y z ys zs same = same

  kept_first : (p : X → Bool) (P : X → Type 0) (ys : List X) (z : X) (rest : List X) → AllByRecursion P ys
      → filter p ys ≡ z ∷ rest → P z
  kept_first p P [] z rest all is = absurd (cc)
  kept_first p P (y ∷ ys) z rest all is =
      elim (p y) as (λ b. cond b (y ∷ filter p ys) (filter p ys) ≡ z ∷ rest → P z) [
        | true ↦ λ same. let one : y ≡ z = cc in subst P one all.0
        | false ↦ λ same. kept_first p P ys z rest all.1 same
      ] is

neither : (a b : Bool) → not a && not b ≡ true → (a ≡ false) × (b ≡ false)
neither true b is = absurd (cc)
neither false true is = absurd (cc)
neither false false is = (refl, refl)

module _ {X : Type 0} (lt : X → X → Bool) (o : IsStrictWeakOrder lt) where
  -- none comes before an earlier one
  abbrev Rises : List X → Type 0
  Rises [] = ⊤
  Rises (x ∷ xs) = AllByRecursion (λ y. lt y x ≡ false) xs × Rises xs

  never_less : (x : X) → lt x x ≡ false
  never_less x =
      elim (lt x x) as (λ b. lt x x ≡ b → lt x x ≡ false) [ true ↦ λ less. o.one_way x x less | false ↦ λ no. no ] refl

  all_above : (x y : X) (ys : List X) → lt y x ≡ false → AllByRecursion (λ z. lt z y ≡ false) ys
      → AllByRecursion (λ z. lt z x ≡ false) ys
  all_above x y [] first above = tt
  all_above x y (z ∷ ys) first above = (o.chain z y x above.0 first, all_above x y ys first above.1)

  sorted_tail : (x : X) (xs : List X) → IsSortedBy lt (x ∷ xs) → IsSortedBy lt xs
  sorted_tail x xs up k d from below =
      let next : suc k + 1 ≡ suc (k + 1) = omega arith in
      subst (λ n. lt (get_or (x ∷ xs) n d) (get_or xs k d) ≡ false) next (up (suc k) d (omega arith) (omega (arith, below)))

  least : (x : X) (xs : List X) → IsSortedBy lt (x ∷ xs) → AllByRecursion (λ y. lt y x ≡ false) xs
  least x [] up = tt
  least x (y ∷ ys) up =
      let first : lt y x ≡ false = up 0 x (omega arith) (omega arith) in
      (first, all_above x y ys first (least y ys (sorted_tail x (y ∷ ys) up)))

  rises_where_sorted : (xs : List X) → IsSortedBy lt xs → Rises xs
  rises_where_sorted [] up = tt
  rises_where_sorted (x ∷ xs) up = (least x xs up, rises_where_sorted xs (sorted_tail x xs up))

  placed_above : (w x : X) (ys : List X) → lt x w ≡ false → AllByRecursion (λ z. lt z w ≡ false) ys
      → AllByRecursion (λ z. lt z w ≡ false) (placed lt x ys)
  placed_above w x [] one above = (one, tt)
  placed_above w x (y ∷ ys) one above =
      either (AllByRecursion (λ z. lt z w ≡ false)) (lt y x) (y ∷ placed lt x ys) (x ∷ y ∷ ys)
      (above.0, placed_above w x ys one above.1) (one, above)

  placed_rises : (x : X) (ys : List X) → Rises ys → Rises (placed lt x ys)
  placed_rises x [] up = (tt, tt)
  placed_rises x (y ∷ ys) up =
      elim (lt y x) as (λ b. lt y x ≡ b → Rises (cond b (y ∷ placed lt x ys) (x ∷ y ∷ ys))) [
        | true ↦ λ less. (placed_above y x ys (o.one_way y x less) up.0, placed_rises x ys up.1)
        | false ↦ λ no. ((no, all_above x y ys no up.0), up)
      ] refl

  order_rises : (xs : List X) → Rises (in_order lt xs)
  order_rises [] = tt
  order_rises (x ∷ xs) = placed_rises x (in_order lt xs) (order_rises xs)

  sorted_where_rises : (xs : List X) → Rises xs → IsSortedBy lt xs
  sorted_where_rises [] up k d from below = absurd (omega (arith, below))
  sorted_where_rises (x ∷ []) up k d from below = absurd (omega (arith, below))
  sorted_where_rises (x ∷ y ∷ ys) up zero d from below = up.0.0
  sorted_where_rises (x ∷ y ∷ ys) up (suc k) d from below =
      let next : suc k + 1 ≡ suc (k + 1) = omega arith in
      subst (λ n. lt (get_or (x ∷ y ∷ ys) n d) (get_or (y ∷ ys) k d) ≡ false) (sym next)
      (sorted_where_rises (y ∷ ys) up.1 k d (omega arith) (omega (arith, below)))

  placed_moves : (x : X) (ys : List X) → IsPermutation (x ∷ ys) (placed lt x ys)
  placed_moves x [] = record { moves = []; below = tt; is = refl }
  placed_moves x (y ∷ ys) =
      elim (lt y x) as (λ b. IsPermutation (x ∷ y ∷ ys) (cond b (y ∷ placed lt x ys) (x ∷ y ∷ ys))) [
        | true ↦ IsPermutation-trans (x ∷ y ∷ ys) (y ∷ x ∷ ys) (y ∷ placed lt x ys) (IsPermutation-middle (x ∷ []) y ys)
            (IsPermutation-cons y (x ∷ ys) (placed lt x ys) (placed_moves x ys))
        | false ↦ record { moves = []; below = tt; is = refl }
      ]

  order_moves : (xs : List X) → IsPermutation xs (in_order lt xs)
  order_moves [] = record { moves = []; below = tt; is = refl }
  order_moves (x ∷ xs) =
      IsPermutation-trans (x ∷ xs) (x ∷ in_order lt xs) (placed lt x (in_order lt xs))
      (IsPermutation-cons x xs (in_order lt xs) (order_moves xs)) (placed_moves x (in_order lt xs))

  -- what ties with two makes them tie
  no_third : (x y z : X) → lt y x ≡ true → ties lt z x ≡ true → ties lt z y ≡ true → false ≡ true
  no_third x y z less one other =
      sym (o.chain y z x (neither (lt z y) (lt y z) other).1 (neither (lt z x) (lt x z) one).0) ∙ less

  placed_stable : (z x : X) (ys : List X) → filter (ties lt z) (placed lt x ys) ≡ filter (ties lt z) (x ∷ ys)
  placed_stable z x [] = refl
  placed_stable z x (y ∷ ys) =
      elim (lt y x) as (λ b. lt y x ≡ b
      → filter (ties lt z) (cond b (y ∷ placed lt x ys) (x ∷ y ∷ ys)) ≡ filter (ties lt z) (x ∷ y ∷ ys)) [
        | true ↦ λ less. ap (λ l. cond (ties lt z y) (y ∷ l) l) (placed_stable z x ys)
            ∙ swapped x y (filter (ties lt z) ys) (ties lt z x) (ties lt z y) (no_third x y z less)
        | false ↦ λ no. refl
      ] refl

  order_stable : (z : X) (xs : List X) → filter (ties lt z) (in_order lt xs) ≡ filter (ties lt z) xs
  order_stable z [] = refl
  order_stable z (x ∷ xs) =
      placed_stable z x (in_order lt xs) ∙ ap (λ l. cond (ties lt z x) (x ∷ l) l) (order_stable z xs)

  starts : (x : X) (xs : List X) → filter (ties lt x) (x ∷ xs) ≡ x ∷ filter (ties lt x) xs
  starts x xs = ap (λ b. cond (not b && not b) (x ∷ filter (ties lt x) xs) (filter (ties lt x) xs)) (never_less x)

  -- two lists that rise and in which the same ones tie are equal
  one_order : (ys zs : List X) → Rises ys → Rises zs → ((w : X) → filter (ties lt w) ys ≡ filter (ties lt w) zs) → ys ≡ zs
  one_order [] [] up also same = refl
  one_order [] (z ∷ zs) up also same = absurd (let is = same z ∙ starts z zs in cc)
  one_order (y ∷ ys) [] up also same = absurd (let is = sym (same y) ∙ starts y ys in cc)
  one_order (y ∷ ys) (z ∷ zs) up also same =
      let first = kept_first (ties lt z) (λ w. lt w y ≡ false) (y ∷ ys) z (filter (ties lt z) zs) (never_less y, up.0)
      (same z ∙ starts z zs) in
      let other = kept_first (ties lt y) (λ w. lt w z ≡ false) (z ∷ zs) y (filter (ties lt y) ys) (never_less z, also.0)
      (sym (same y) ∙ starts y ys) in
      let tied : ties lt y z ≡ true = ap (λ b. not b && not (lt z y)) other ∙ ap (λ b. not false && not b) first in
      let heads : y ∷ filter (ties lt y) ys ≡ z ∷ filter (ties lt y) zs =
      sym (starts y ys) ∙ same y ∙ ap (λ b. cond b (z ∷ filter (ties lt y) zs) (filter (ties lt y) zs)) tied in
      let one : y ≡ z = cc in
      let rest = one_order ys zs up.1 also.1 (λ w.
      tails (ties lt w y) y z (filter (ties lt w) ys) (filter (ties lt w) zs)
      (same w ∙ ap (λ v. cond (ties lt w v) (z ∷ filter (ties lt w) zs) (filter (ties lt w) zs)) (sym one))) in
      ap (λ x. x ∷ ys) one ∙ ap (λ l. z ∷ l) rest

  -- so what a stable sort gives is what the definition gives
  sorted_is : (xs ys : List X) → IsSortedBy lt ys → IsStableBy lt xs ys → ys ≡ in_order lt xs
  sorted_is xs ys up stable =
      one_order ys (in_order lt xs) (rises_where_sorted ys up) (order_rises xs) (λ w. stable w ∙ sym (order_stable w xs))

pub forms_rise : (xs : List Form) → IsSorted (on meaning compare) (in_order is_less xs)
forms_rise xs =
    let ranks = ranks_by compare_total meaning in sorted_where_rises is_less ranks (in_order is_less xs) (order_rises is_less ranks xs)

pub forms_stay : (xs : List Form) → IsStable (on meaning compare) xs (in_order is_less xs)
forms_stay xs x = order_stable is_less (ranks_by compare_total meaning) x xs

pub forms_move : (xs : List Form) → IsPermutation xs (in_order is_less xs)
forms_move xs = order_moves is_less (ranks_by compare_total meaning) xs

pub sorted_forms : (xs ys : List Form) → IsSorted (on meaning compare) ys → IsStable (on meaning compare) xs ys
    → ys ≡ in_order is_less xs
sorted_forms xs ys up stable = sorted_is is_less (ranks_by compare_total meaning) xs ys up stable

pub ruleset laws = (forms_rise, forms_stay, forms_move, sorted_forms)
