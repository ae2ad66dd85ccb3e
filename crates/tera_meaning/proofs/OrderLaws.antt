-- The order of meanings is total, and ties equal meanings alone.
use Rattle.std.specs.Prelude.{◌≡◌, ℕ, ◌<◌, ◌≤◌, ◌↔◌, IsTrue, List, ◌∷◌, ℤ, refl}
use Rattle.std.proofs.Common.{sym, ◌∙◌, ap, arith, rules}
use Rattle.std.specs.Ordering.{ordering_then, ordering_reverse, as_partial_cmp}
use Rattle.std.specs.declared.cmp.Ordering.TheVariants.{Less, Equal}
use Rattle.std.specs.Cmp.{IsPartialEquivalence, IsEquivalence, IsTotalOrder, IsPartialOrder, int_cmp_total, bool_cmp_total}
use Rattle.std.specs.Cmp.Lexicographic.{slice_cmp, nat_list_cmp_total}
use Rattle.std.specs.FinMap.{nat_cmp-IsAntisymmetric, int_cmp-IsAntisymmetric, slice_cmp-IsAntisymmetric}
use Rattle.tera_meaning.specs.KeyMeaning.{KeyMeaning, key_order}
use Rattle.tera_meaning.proofs.KeyLaws.{truth_exact, key_exact, key_total}
use Rattle.tera_meaning.proofs.ChainedLaws.{first_equal, second_equal, reverse_then, chain_then, then_nested, equal_less, greater_less, nat_less}
use Rattle.tera_meaning.specs.Meaning.{Meaning}
use Rattle.tera_meaning.specs.Order.{pair_order, rank, compare, compare_items, compare_members, same}
use Rattle.tera_meaning.specs.Tree.{Items, Members, undefined, none, truth, number, text, bytes, array, object, no_items, item, no_members, member, items}
use Rattle.tera_meaning.specs.Tree.{members}

mutual
  pub compare_exact : (x y : Meaning) → compare x y ≡ Equal → x ≡ y
  compare_exact (truth a) (truth b) e = ap truth (truth_exact a b e)
  compare_exact (number y) (number z) e = ap number (int_cmp-IsAntisymmetric y z e)
  compare_exact (text s) (text t) e = ap text (slice_cmp-IsAntisymmetric nat_cmp-IsAntisymmetric s t e)
  compare_exact (bytes s) (bytes t) e = ap bytes (slice_cmp-IsAntisymmetric nat_cmp-IsAntisymmetric s t e)
  compare_exact (array xs) (array ys) e = ap array (items_exact xs ys e)
  compare_exact (object ps) (object qs) e = ap object (members_exact ps qs e)
  compare_exact none none e = refl
  compare_exact undefined undefined e = refl
  compare_exact x y e = cc

  pub items_exact : (xs ys : Items ℤ (List ℕ) KeyMeaning) → compare_items xs ys ≡ Equal → xs ≡ ys
  items_exact no_items no_items e = refl
  items_exact (item x xs) (item y ys) e =
      λ i. item (compare_exact x y (first_equal (compare x y) (compare_items xs ys) e) i)
      (items_exact xs ys (second_equal (compare x y) (compare_items xs ys) e) i)
  items_exact xs ys e = cc

  pub members_exact : (ps qs : Members ℤ (List ℕ) KeyMeaning) → compare_members ps qs ≡ Equal → ps ≡ qs
  members_exact no_members no_members e = refl
  members_exact (member k x ps) (member l y qs) e =
      let rest : ordering_then (compare x y) (compare_members ps qs) ≡ Equal =
      second_equal (key_order k l) (ordering_then (compare x y) (compare_members ps qs)) e in
      λ i. member (key_exact k l (first_equal (key_order k l) (ordering_then (compare x y) (compare_members ps qs)) e) i)
      (compare_exact x y (first_equal (compare x y) (compare_members ps qs) rest) i)
      (members_exact ps qs (second_equal (compare x y) (compare_members ps qs) rest) i)
  members_exact ps qs e = cc

mutual
  pub compare_reversed : (x y : Meaning) → compare x y ≡ ordering_reverse (compare y x)
  compare_reversed (truth a) (truth b) = bool_cmp_total.antisymm a b
  compare_reversed (number y) (number z) = int_cmp_total.antisymm y z
  compare_reversed (text s) (text t) = nat_list_cmp_total.antisymm s t
  compare_reversed (bytes s) (bytes t) = nat_list_cmp_total.antisymm s t
  compare_reversed (array xs) (array ys) = items_reversed xs ys
  compare_reversed (object ps) (object qs) = members_reversed ps qs
  compare_reversed none none = refl
  compare_reversed undefined undefined = refl
  compare_reversed x y = refl

  items_reversed : (xs ys : Items ℤ (List ℕ) KeyMeaning) → compare_items xs ys ≡ ordering_reverse (compare_items ys xs)
  items_reversed no_items no_items = refl
  items_reversed no_items (item y ys) = refl
  items_reversed (item x xs) no_items = refl
  items_reversed (item x xs) (item y ys) =
      (λ i. ordering_then (compare_reversed x y i) (items_reversed xs ys i)) ∙ reverse_then (compare y x) (compare_items ys xs)

  members_reversed : (ps qs : Members ℤ (List ℕ) KeyMeaning) → compare_members ps qs ≡ ordering_reverse (compare_members qs ps)
  members_reversed no_members no_members = refl
  members_reversed no_members (member l y qs) = refl
  members_reversed (member k x ps) no_members = refl
  members_reversed (member k x ps) (member l y qs) =
      let both : ordering_then (compare x y) (compare_members ps qs) ≡ ordering_reverse (ordering_then (compare y x) (compare_members qs ps)) =
      (λ i. ordering_then (compare_reversed x y i) (members_reversed ps qs i)) ∙ reverse_then (compare y x) (compare_members qs ps) in
      (λ i. ordering_then (key_total.antisymm k l i) (both i)) ∙ reverse_then (key_order l k) (ordering_then (compare y x) (compare_members qs ps))

-- a lesser rank decides, and what is less has no greater rank
pub lower : (x y : Meaning) → rank x < rank y → compare x y ≡ Less
lower x y h = search rules

upto : (x y : Meaning) → compare x y ≡ Less → rank x ≤ rank y
upto x y e = search rules

mutual
  compare_chain : (x y z : Meaning) → compare x y ≡ Less → compare y z ≡ Less → compare x z ≡ Less
  compare_chain (truth a) (truth b) (truth c) p q = bool_cmp_total.trans a b c p q
  compare_chain (number k) (number m) (number n) p q = int_cmp_total.trans k m n p q
  compare_chain (text r) (text s) (text t) p q = nat_list_cmp_total.trans r s t p q
  compare_chain (bytes r) (bytes s) (bytes t) p q = nat_list_cmp_total.trans r s t p q
  compare_chain (array xs) (array ys) (array zs) p q = items_chain xs ys zs p q
  compare_chain (object ps) (object qs) (object rs) p q = members_chain ps qs rs p q
  compare_chain (truth a) (truth b) z p q = q
  compare_chain (number k) (number m) z p q = q
  compare_chain (text r) (text s) z p q = q
  compare_chain (bytes r) (bytes s) z p q = q
  compare_chain (array xs) (array ys) z p q = q
  compare_chain (object ps) (object qs) z p q = q
  compare_chain x y z p q = lower x z (let less = nat_less (rank x) (rank y) p in let most = upto y z q in omega arith)

  items_chain : (xs ys zs : Items ℤ (List ℕ) KeyMeaning) → compare_items xs ys ≡ Less → compare_items ys zs ≡ Less → compare_items xs zs ≡ Less
  items_chain no_items no_items no_items p q = absurd (equal_less p)
  items_chain no_items (item y ys) no_items p q = absurd (greater_less q)
  items_chain no_items ys (item z zs) p q = refl
  items_chain (item x xs) no_items zs p q = absurd (greater_less p)
  items_chain (item x xs) (item y ys) no_items p q = absurd (greater_less q)
  items_chain (item x xs) (item y ys) (item z zs) p q =
      chain_then (compare x y) (compare y z) (compare x z) (compare_items xs ys) (compare_items ys zs) (compare_items xs zs)
      (compare_chain x y z)
      (λ e. ap (λ w. compare w z) (compare_exact x y e))
      (λ e. sym (ap (λ w. compare x w) (compare_exact y z e)))
      (items_chain xs ys zs)
      p q

  members_chain : (ps qs rs : Members ℤ (List ℕ) KeyMeaning) → compare_members ps qs ≡ Less → compare_members qs rs ≡ Less → compare_members ps rs ≡ Less
  members_chain no_members no_members no_members p q = absurd (equal_less p)
  members_chain no_members (member l y qs) no_members p q = absurd (greater_less q)
  members_chain no_members qs (member m z rs) p q = refl
  members_chain (member k x ps) no_members rs p q = absurd (greater_less p)
  members_chain (member k x ps) (member l y qs) no_members p q = absurd (greater_less q)
  members_chain (member k x ps) (member l y qs) (member m z rs) p q =
      chain_then (key_order k l) (key_order l m) (key_order k m) (ordering_then (compare x y) (compare_members ps qs))
      (ordering_then (compare y z) (compare_members qs rs)) (ordering_then (compare x z) (compare_members ps rs))
      (key_total.trans k l m)
      (λ e. ap (λ w. key_order w m) (key_exact k l e))
      (λ e. sym (ap (λ w. key_order k w) (key_exact l m e)))
      (λ p' q'. chain_then (compare x y) (compare y z) (compare x z) (compare_members ps qs) (compare_members qs rs) (compare_members ps rs)
      (compare_chain x y z)
      (λ e. ap (λ w. compare w z) (compare_exact x y e))
      (λ e. sym (ap (λ w. compare x w) (compare_exact y z e)))
      (members_chain ps qs rs)
      p' q')
      p q

pub compare_total : IsTotalOrder compare
compare_total = record {
  antisymm = compare_reversed;
  trans = compare_chain;
  congr = λ x y z e. ap (λ w. compare w z) (compare_exact x y e);
}

-- the order as `partial_cmp` answers it
pub compare_partial : IsPartialOrder same (as_partial_cmp compare)
compare_partial = search (rules, compare_total)

pub compare_same : (x : Meaning) → compare x x ≡ Equal
compare_same x = search (rules, compare_total)

pub same_equivalence : IsEquivalence same
same_equivalence = search (rules, compare_total)

pub same_partial_equivalence : IsPartialEquivalence same
same_partial_equivalence = search (rules, same_equivalence)

pub same_is : (x y : Meaning) → IsTrue (same x y) ↔ (x ≡ y)
same_is x y = search (rules, compare_exact, compare_same)

pub compare_tie : (x y : Meaning) → (compare x y ≡ Equal) ↔ (x ≡ y)
compare_tie x y = (compare_exact x y, λ e. ap (λ w. compare x w) (sym e) ∙ compare_same x)

-- arrays and maps compare as the lists of their items and pairs: the first that differ decide, and else the lengths
pub items_by_first_difference : (xs ys : List Meaning) → compare (array (items xs)) (array (items ys)) ≡ slice_cmp compare xs ys
items_by_first_difference (x ∷ xs) (y ∷ ys) = search (rules, (items_by_first_difference xs ys))
items_by_first_difference x0 x1 = search rules

pub members_by_first_difference : (ps qs : List (KeyMeaning × Meaning)) → compare (object (members ps)) (object (members qs)) ≡ slice_cmp pair_order ps qs
members_by_first_difference (p ∷ ps) (q ∷ qs) = search (rules, then_nested, slice_cmp, (members_by_first_difference ps qs))
members_by_first_difference x0 x1 = search rules

pub ruleset laws = (compare_total, compare_partial, same_is, same_equivalence, items_by_first_difference, members_by_first_difference)
