-- The names of fields: what the keys of a map print, sorted, with one of those that are equal.
use Rattle.std.specs.Prelude.{◌≡◌, ℕ, zero, suc, nat_eq, true, List, [], ◌∷◌, map, refl}
use Rattle.std.proofs.Common.{sym, ◌∙◌, ap, arith, subst}
use Rattle.std.proofs.lemmas.List.Kept.{IsStrictlySortedBy-dedup, Any-dedup, Contains-from_dedup}
use Rattle.std.proofs.lemmas.List.Sorted.{Contains-permutation, IsPermutation-sym}
use Rattle.std.specs.BTreeSet.{insert_key}
use Rattle.std.specs.Cmp.{Equal-is}
use Rattle.std.specs.Cmp.Lexicographic.{slice_cmp, pointwise, on_texts, on_texts_equal, texts_ties}
use Rattle.std.specs.FinMap.{nat_cmp-IsAntisymmetric, slice_cmp-IsAntisymmetric}
use Rattle.std.specs.List.{Contains, AllByRecursion, dedup}
use Rattle.std.specs.List.Sorted.{IsStrictlySortedBy, IsSorted, IsPermutation}
use Rattle.std.specs.Ordering.{nat_cmp, on, match_ordering}
use Rattle.std.specs.declared.cmp.Ordering.TheVariants.{Less, Equal, Greater}
use Rattle.tera_meaning.specs.Fields.{AreRisingOf, fields, shown_in, shown_keys, rising_texts}
use Rattle.tera_meaning.specs.Form.{Form}
use Rattle.tera_meaning.specs.KeyMeaning.{KeyForm, key_meaning}
use Rattle.tera_meaning.specs.Printed.{shown_key}
use Rattle.tera_meaning.specs.Tree.{object, members}
use Rattle.tera_meaning.proofs.TreeLaws.{list_of_members}

module _ {X : Type 0} (f : X → List ℕ) where
  pub has_of : (xs : List X) (t : List ℕ) → Contains (map f xs) t → (x : X) × Contains xs x × (f x ≡ t)
  has_of [] t (k, below, is) = absurd (omega arith)
  has_of (x ∷ xs) t (zero, below, is) = (x, (0, omega arith, refl), is)
  has_of (x ∷ xs) t (suc k, below, is) =
      let (y, (n, within, at), same) = has_of xs t (k, omega arith, is) in
      (y, (suc n, omega arith, at), same)

  pub of_has : (xs : List X) (x : X) → Contains xs x → Contains (map f xs) (f x)
  of_has [] x (k, below, is) = absurd (omega arith)
  of_has (y ∷ ys) x (zero, below, is) = (0, omega arith, ap f is)
  of_has (y ∷ ys) x (suc k, below, is) =
      let (n, within, at) = of_has ys x (k, omega arith, is) in
      (suc n, omega arith, at)

  below_of : (x : X) (xs : List X) → AllByRecursion (λ y. on f (slice_cmp nat_cmp) x y ≡ Less) xs → AllByRecursion (λ t. slice_cmp nat_cmp (f x) t ≡ Less)
      (map f xs)
  below_of x [] h = tt
  below_of x (y ∷ ys) h = (h.0, below_of x ys h.1)

  sorted_of : (xs : List X) → IsStrictlySortedBy (on f (slice_cmp nat_cmp)) xs → IsStrictlySortedBy (slice_cmp nat_cmp) (map f xs)
  unfolding IsStrictlySortedBy
  sorted_of [] h = tt
  sorted_of (x ∷ xs) h = (below_of x xs h.0, sorted_of xs h.1)

  one_text : (x y : X) → on f (pointwise nat_eq) x y ≡ true → f x ≡ f y
  one_text x y e = slice_cmp-IsAntisymmetric nat_cmp-IsAntisymmetric (f x) (f y)
      ((Equal-is (slice_cmp nat_cmp (f x) (f y))).0 (sym (texts_ties (f x) (f y)) ∙ e))

  keeps : (sorted : List X) (t : List ℕ) → Contains (map f sorted) t → Contains (map f (dedup (on f (pointwise nat_eq)) sorted)) t
  keeps sorted t c =
      let (x, has, is) = has_of sorted t c in
      let (k, y, below, at, same) = Any-dedup (on_texts_equal f) sorted x has in
      subst (Contains (map f (dedup (on f (pointwise nat_eq)) sorted))) (sym (one_text x y same) ∙ is)
      (of_has (dedup (on f (pointwise nat_eq)) sorted) y (k, below, at))

  -- what is left of sorted texts, one of those that are equal
  pub left_of_sorted : (old sorted : List X) → IsPermutation old sorted → IsSorted (on f (slice_cmp nat_cmp)) sorted
      → AreRisingOf (map f old) (map f (dedup (on f (pointwise nat_eq)) sorted))
  left_of_sorted old sorted moved up = (
    sorted_of _ (IsStrictlySortedBy-dedup (on_texts f) (λ x y. texts_ties (f x) (f y)) sorted up),
    λ t. (
      λ c. let (x, has, is) = has_of (dedup (on f (pointwise nat_eq)) sorted) t c in
          subst (Contains (map f old)) is
          (of_has old x (Contains-permutation sorted old x (IsPermutation-sym old sorted moved)
          (Contains-from_dedup (on f (pointwise nat_eq)) sorted x has))),
      λ c. let (x, has, is) = has_of old t c in
          keeps sorted t (subst (Contains (map f sorted)) is (of_has sorted x (Contains-permutation old sorted x moved has))),
    ),
  )

-- ---- what the keys of a map print

-- of a map of these pairs
pub shown_of : (value : Form) (ps : List (KeyForm × Form)) → value ≡ object (members ps) → shown_in value ≡ shown_keys ps
shown_of value ps is = ap shown_in is ∙ ap shown_keys (list_of_members ps)

-- where nothing is shown there is no pair
pub none_shown : (ps : List (KeyForm × Form)) → shown_keys ps ≡ [] → ps ≡ []
none_shown [] e = refl
none_shown (p ∷ ps) e = cc

-- ---- the names of a map

-- the names of a map of these pairs
pub fields_of : (value : Form) (ps : List (KeyForm × Form)) → value ≡ object (members ps) → fields value ≡ rising_texts (shown_keys ps)
fields_of value ps is = ap fields is ∙ ap (λ qs. rising_texts (shown_keys qs)) (list_of_members ps)

some_put : (t : List ℕ) (us : List (List ℕ)) → insert_key (slice_cmp nat_cmp) us t ≡ [] → ⊥
some_put t [] e = cc
some_put t (u ∷ us) e = elim (slice_cmp nat_cmp t u) as (λ r. match_ordering r (t ∷ u ∷ us) (u ∷ us) (u ∷ insert_key (slice_cmp nat_cmp) us t) ≡ [] → ⊥) [
  | Less ↦ λ none. cc
  | Equal ↦ λ none. cc
  | Greater ↦ λ none. cc
] e

-- where there is no name there is no pair
pub no_names : (ps : List (KeyForm × Form)) → rising_texts (shown_keys ps) ≡ [] → ps ≡ []
no_names [] e = refl
no_names (p ∷ ps) e = absurd (some_put (shown_key (key_meaning p.0)) (rising_texts (shown_keys ps)) e)
