-- The first ones of their meanings mean different things, and one of them stands for each item.
use Rattle.std.specs.Prelude.{◌≡◌, ◌||◌, not, Bool, true, false, cond, List, [], ◌∷◌, refl}
use Rattle.std.specs.List.{AllByRecursion, IsDistinct, filter}
use Rattle.std.proofs.Common.{ap, sym, ◌∙◌}
use Rattle.tera.proofs.OrderLaws.{same_equivalence}
use Rattle.tera.specs.Form.{Form}
use Rattle.tera.specs.Meaning.{meaning}
use Rattle.tera_filters.specs.Arrays.{first_ones, has_same, mean_same}

-- what is so of each is so of each that a test keeps
kept : (P : Form → Type 0) (p : Form → Bool) (xs : List Form) → AllByRecursion P xs → AllByRecursion P (filter p xs)
kept P p [] all = tt
kept P p (x ∷ xs) all =
    elim (p x) as (λ b. AllByRecursion P (cond b (x ∷ filter p xs) (filter p xs))) [
      | true ↦ (all.0, kept P p xs all.1)
      | false ↦ kept P p xs all.1
    ]

still_distinct : (p : Form → Bool) (xs : List Form) → IsDistinct mean_same xs → IsDistinct mean_same (filter p xs)
unfolding IsDistinct
still_distinct p [] apart = tt
still_distinct p (x ∷ xs) apart =
    elim (p x) as (λ b. IsDistinct mean_same (cond b (x ∷ filter p xs) (filter p xs))) [
      | true ↦ (kept (λ y. mean_same x y ≡ false) p xs apart.0, still_distinct p xs apart.1)
      | false ↦ still_distinct p xs apart.1
    ]

-- those that do not mean the same as one
others_differ : (x : Form) (ys : List Form)
    → AllByRecursion (λ y. mean_same x y ≡ false) (filter (λ y. not (mean_same x y)) ys)
others_differ x [] = tt
others_differ x (y ∷ ys) =
    let rest = filter (λ z. not (mean_same x z)) ys in
    elim (mean_same x y) as (λ b. mean_same x y ≡ b → AllByRecursion (λ z. mean_same x z ≡ false) (cond (not b) (y ∷ rest) rest)) [
      | true ↦ λ has. others_differ x ys
      | false ↦ λ new. (new, others_differ x ys)
    ] refl

pub all_distinct : (xs : List Form) → IsDistinct mean_same (first_ones xs)
unfolding IsDistinct
all_distinct [] = tt
all_distinct (x ∷ xs) =
    (others_differ x (first_ones xs), still_distinct (λ y. not (mean_same x y)) (first_ones xs) (all_distinct xs))

-- what means another than one is not among those that mean the same as that
among_others : (x z : Form) → mean_same z x ≡ false → (ys : List Form)
    → has_same (filter (λ y. not (mean_same x y)) ys) z ≡ has_same ys z
among_others x z differ [] = refl
among_others x z differ (y ∷ ys) =
    let rest = filter (λ w. not (mean_same x w)) ys in
    elim (mean_same x y) as (λ b. mean_same x y ≡ b → has_same (cond (not b) (y ∷ rest) rest) z ≡ (mean_same z y || has_same ys z)) [
      | true ↦ λ has.
          let other : mean_same z y ≡ false =
          same_equivalence.symm (meaning z) (meaning y) ∙ sym (same_equivalence.congr (meaning x) (meaning y) (meaning z) has)
          ∙ same_equivalence.symm (meaning x) (meaning z) ∙ differ in
          among_others x z differ ys ∙ ap (λ b. b || has_same ys z) (sym other)
      | false ↦ λ new. ap (λ b. mean_same z y || b) (among_others x z differ ys)
    ] refl

pub one_for_each : (xs : List Form) (z : Form) → has_same (first_ones xs) z ≡ has_same xs z
one_for_each [] z = refl
one_for_each (x ∷ xs) z =
    let rest = filter (λ y. not (mean_same x y)) (first_ones xs) in
    elim (mean_same z x) as (λ b. mean_same z x ≡ b → (b || has_same rest z) ≡ (b || has_same xs z)) [
      | true ↦ λ has. refl
      | false ↦ λ differ. among_others x z differ (first_ones xs) ∙ one_for_each xs z
    ] refl
