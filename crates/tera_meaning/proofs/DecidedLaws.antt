-- The partial order of meanings answers as the order does, or not at all.
use Rattle.std.proofs.lemmas.Option.{none-some, same_Some}
use Rattle.std.specs.Prelude.{◌≡◌, ℕ, ℤ, Bool, List, ◌∷◌, Option, Some, None, ◌==◌, if◌then◌else◌, refl}
use Rattle.std.proofs.Common.{◌∙◌, ap, rules}
use Rattle.std.specs.Cmp.{some_flip}
use Rattle.std.specs.Cmp.Lexicographic.{slice_partial_cmp}
use Rattle.std.specs.Option.{option_map}
use Rattle.std.specs.Ordering.{ordering_then, ordering_reverse, partial_ordering_then}
use Rattle.std.specs.declared.cmp.Ordering.{Ordering}
use Rattle.std.specs.declared.cmp.Ordering.TheVariants.{Less, Equal, Greater}
use Rattle.tera_meaning.specs.Decided.{decided, decided_items}
use Rattle.tera_meaning.specs.KeyMeaning.{KeyMeaning}
use Rattle.tera_meaning.specs.Meaning.{Meaning}
use Rattle.tera_meaning.specs.Order.{rank, compare, compare_items}
use Rattle.tera_meaning.proofs.OrderLaws.{compare_reversed}
use Rattle.tera_meaning.specs.Tree.{Items, undefined, none, truth, number, text, bytes, array, object, no_items, item, items}

-- the parts of two answers, one after the other
then_agrees : (p q : Option Ordering) (r s answer : Ordering) → ((a : Ordering) → p ≡ Some a → r ≡ a) → ((a : Ordering) → q ≡ Some a → s ≡ a)
    → partial_ordering_then p q ≡ Some answer → ordering_then r s ≡ answer
then_agrees None q r s answer f g e = absurd (none-some answer e)
then_agrees (Some Less) q r s answer f g e = ap (λ o. ordering_then o s) (f Less refl) ∙ same_Some Less answer e
then_agrees (Some Equal) q r s answer f g e = ap (λ o. ordering_then o s) (f Equal refl) ∙ g answer e
then_agrees (Some Greater) q r s answer f g e = ap (λ o. ordering_then o s) (f Greater refl) ∙ same_Some Greater answer e

by_rank : (b : Bool) (r answer : Ordering) → (if b then Some r else None) ≡ Some answer → r ≡ answer
by_rank x0 r answer e = search rules

mutual
  pub decided_agrees : (x y : Meaning) (answer : Ordering) → decided x y ≡ Some answer → compare x y ≡ answer
  decided_agrees (array xs) (array ys) answer e = items_agree xs ys answer e
  decided_agrees (object ps) (object qs) answer e = absurd (none-some answer e)
  decided_agrees x y answer e = by_rank (rank x == rank y) (compare x y) answer e

  items_agree : (xs ys : Items ℤ (List ℕ) KeyMeaning) (answer : Ordering) → decided_items xs ys ≡ Some answer → compare_items xs ys ≡ answer
  items_agree no_items no_items answer e = same_Some Equal answer e
  items_agree no_items (item y ys) answer e = same_Some Less answer e
  items_agree (item x xs) no_items answer e = same_Some Greater answer e
  items_agree (item x xs) (item y ys) answer e =
      then_agrees (decided x y) (decided_items xs ys) (compare x y) (compare_items xs ys) answer (decided_agrees x y) (items_agree xs ys) e

pub decided_arrays : (xs ys : List Meaning) → decided_items (items xs) (items ys) ≡ slice_partial_cmp decided xs ys
decided_arrays (x ∷ xs) (y ∷ ys) = search (rules, (decided_arrays xs ys))
decided_arrays x0 x1 = search rules

mutual
  pub decided_swapped : (x y : Meaning) → decided x y ≡ option_map ordering_reverse (decided y x)
  decided_swapped (array xs) (array ys) = items_swapped xs ys
  decided_swapped (object ps) (object qs) = refl
  decided_swapped (truth a) (truth b) = ap Some (compare_reversed (truth a) (truth b))
  decided_swapped (number y) (number z) = ap Some (compare_reversed (number y) (number z))
  decided_swapped (text s) (text t) = ap Some (compare_reversed (text s) (text t))
  decided_swapped (bytes s) (bytes t) = ap Some (compare_reversed (bytes s) (bytes t))
  decided_swapped none none = refl
  decided_swapped undefined undefined = refl
  decided_swapped x y = refl

  items_swapped : (xs ys : Items ℤ (List ℕ) KeyMeaning) → decided_items xs ys ≡ option_map ordering_reverse (decided_items ys xs)
  items_swapped no_items no_items = refl
  items_swapped no_items (item y ys) = refl
  items_swapped (item x xs) no_items = refl
  items_swapped (item x xs) (item y ys) =
      (λ i. partial_ordering_then (decided_swapped x y i) (items_swapped xs ys i)) ∙ some_flip (decided y x) (decided_items ys xs)

pub ruleset laws = (decided_agrees, decided_swapped)
