-- Looking in lists that rise strictly by a total order.
use Rattle.std.specs.Prelude.{◌≡◌, ℕ, zero, suc, ◌<◌, ◌+◌, ◌++◌, take, Bool, true, false, cond, length, List, [], ◌∷◌, Option, Some, None, refl}
use Rattle.std.specs.BTreeSet.{insert_key}
use Rattle.std.specs.Option.{option_or}
use Rattle.std.specs.Cmp.{IsTotalOrder, tied_itself}
use Rattle.std.specs.List.{AllByRecursion, Contains, find}
use Rattle.std.specs.List.Sorted.{IsStrictlySortedBy}
use Rattle.std.specs.Ordering.{eq_by_cmp, is_eq, match_ordering, ordering_reverse}
use Rattle.std.specs.declared.cmp.Ordering.{Ordering}
use Rattle.std.specs.declared.cmp.Ordering.TheVariants.{Less, Equal, Greater}
use Rattle.std.proofs.Common.{ap, sym, subst, ◌∙◌, get_or, arith, rules}
use Rattle.std.proofs.lemmas.Grind.{take_at_read}
use Rattle.std.proofs.lemmas.List.Elements.{All-contains, All-from_recursion}
use Rattle.std.proofs.lemmas.Map.Keys.{sorted_head, sorted_tail}
use Rattle.std.proofs.lemmas.Option.{same_Some}

module _ {K : Type 0} where
  later : (x : K) (ks : List K) (k : K) → Contains ks k → Contains (x ∷ ks) k
  later x ks k (i, below, is) = (suc i, omega (arith, below), is)

  -- what a search gives passes the test and stands in the list
  pub found_passes : (test : K → Bool) (ks : List K) (k : K) → find test ks ≡ Some k → Contains ks k × (test k ≡ true)
  found_passes test [] k is = absurd (cc)
  found_passes test (x ∷ ks) k is =
      elim (test x) as (λ b. test x ≡ b → cond b (Some x) (find test ks) ≡ Some k → Contains (x ∷ ks) k × (test k ≡ true)) [
        | true ↦ λ passes same. let one : x ≡ k = same_Some x k same in ((0, omega arith, one), subst (λ y. test y ≡ true) one passes)
        | false ↦ λ fails same. let rest = found_passes test ks k same in (later x ks k rest.0, rest.1)
      ] refl is

module _ {K : Type 0} (order : K → K → Ordering) (total : IsTotalOrder order) where
  untied : (q k x : K) → order q k ≡ Equal → order x k ≡ Less → eq_by_cmp order q x ≡ false
  untied q k x tie less = ap is_eq (total.congr q k x tie ∙ total.antisymm k x ∙ ap ordering_reverse less)

  -- an item that ties is the one that is found
  pub found_where_held : (ks : List K) (q k : K) → IsStrictlySortedBy order ks → Contains ks k → order q k ≡ Equal
      → find (eq_by_cmp order q) ks ≡ Some k
  found_where_held [] q k rises (i, below, is) tie = absurd (omega (arith, below))
  found_where_held (x ∷ ks) q k rises (zero, below, is) tie =
      let same : x ≡ k = is in
      ap (λ b. cond b (Some x) (find (eq_by_cmp order q) ks)) (ap (eq_by_cmp order q) same ∙ ap is_eq tie) ∙ ap Some same
  found_where_held (x ∷ ks) q k rises (suc i, below, is) tie =
      let held : Contains ks k = (i, omega (arith, below), is) in
      let less : order x k ≡ Less =
      All-contains (λ y. order x y ≡ Less) ks k (All-from_recursion (λ y. order x y ≡ Less) ks (sorted_head order x ks rises)) held in
      ap (λ b. cond b (Some x) (find (eq_by_cmp order q) ks)) (untied q k x tie less)
      ∙ found_where_held ks q k (sorted_tail order x ks rises) held tie

  tied : (q k : K) → eq_by_cmp order q k ≡ true → order q k ≡ Equal
  tied q k is = search rules

  -- and what is found is held and ties
  pub held_where_found : (ks : List K) (q k : K) → find (eq_by_cmp order q) ks ≡ Some k → Contains ks k × (order q k ≡ Equal)
  held_where_found ks q k is = let both = found_passes (eq_by_cmp order q) ks k is in (both.0, tied q k both.1)

  -- no two items tie
  pub held_once : (ks : List K) (k l : K) → IsStrictlySortedBy order ks → Contains ks k → Contains ks l → order k l ≡ Equal → k ≡ l
  held_once ks k l rises first other tie =
      same_Some k l (sym (found_where_held ks k k rises first (tied_itself total k)) ∙ found_where_held ks k l rises other tie)

-- a search in two lists, one behind the other
pub find_joined : {K : Type 0} (test : K → Bool) (ks ls : List K) → find test (ks ++ ls) ≡ option_or (find test ks) (find test ls)
find_joined test [] ls = refl
find_joined test (k ∷ ks) ls = search (rules, (find_joined test ks ls))

module _ {K : Type 0} (order : K → K → Ordering) (total : IsTotalOrder order) where
  none_above : (ks : List K) (q k : K) → order q k ≡ Equal → AllByRecursion (λ y. order k y ≡ Less) ks → find (eq_by_cmp order q) ks ≡ None
  none_above [] q k tie above = refl
  none_above (x ∷ ks) q k tie above =
      ap (λ b. cond b (Some x) (find (eq_by_cmp order q) ks)) (ap is_eq (total.congr q k x tie ∙ above.0)) ∙ none_above ks q k tie above.1

  above_too : (ks : List K) (k x : K) → order k x ≡ Less → AllByRecursion (λ y. order x y ≡ Less) ks → AllByRecursion (λ y. order k y ≡ Less) ks
  above_too [] k x less above = tt
  above_too (y ∷ ks) k x less above = (total.trans k x y less above.0, above_too ks k x less above.1)

  first_or : (b : Bool) (k : K) (o : Option K) → (b ≡ true → o ≡ None) → cond b (Some k) o ≡ option_or o (cond b (Some k) None)
  first_or true k o none = ap (λ p. option_or p (Some k)) (sym (none refl))
  first_or false k None none = refl
  first_or false k (Some x) none = refl

  tied_with : (b c : Bool) (x k : K) (o : Option K) → (c ≡ true → b ≡ true)
      → cond b (Some x) o ≡ option_or (cond b (Some x) o) (cond c (Some k) None)
  tied_with true c x k o both = refl
  tied_with false true x k o both = absurd (let wrong : false ≡ true = both refl in cc)
  tied_with false false x k None both = refl
  tied_with false false x k (Some y) both = refl

  cond_or : (b : Bool) (x : K) (o p : Option K) → cond b (Some x) (option_or o p) ≡ option_or (cond b (Some x) o) p
  cond_or true x o p = refl
  cond_or false x o p = refl

  -- a search finds what it found, and else the item that takes its place among the others
  pub find_inserted : (ks : List K) (k q : K) → IsStrictlySortedBy order ks
      → find (eq_by_cmp order q) (insert_key order ks k) ≡ option_or (find (eq_by_cmp order q) ks) (cond (eq_by_cmp order q k) (Some k) None)
  find_inserted [] k q rises = refl
  find_inserted (x ∷ ks) k q rises =
      elim (order k x) as (λ r. order k x ≡ r
      → find (eq_by_cmp order q) (match_ordering r (k ∷ x ∷ ks) (x ∷ ks) (x ∷ insert_key order ks k))
      ≡ option_or (find (eq_by_cmp order q) (x ∷ ks)) (cond (eq_by_cmp order q k) (Some k) None)) [
        | Less ↦ λ less. first_or (eq_by_cmp order q k) k (find (eq_by_cmp order q) (x ∷ ks))
            (λ tie. none_above (x ∷ ks) q k (tied order total q k tie) (less, above_too ks k x less (sorted_head order x ks rises)))
        | Equal ↦ λ same. tied_with (eq_by_cmp order q x) (eq_by_cmp order q k) x k (find (eq_by_cmp order q) ks)
            (λ tie. ap is_eq (total.congr q k x (tied order total q k tie) ∙ same))
        | Greater ↦ λ greater. ap (cond (eq_by_cmp order q x) (Some x)) (find_inserted ks k q (sorted_tail order x ks rises))
            ∙ cond_or (eq_by_cmp order q x) x (find (eq_by_cmp order q) ks) (cond (eq_by_cmp order q k) (Some k) None)
      ] refl

  -- so items that take their places one after another are found as the first of them that tie
  pub find_first : (ks : List K) (xs : List K) (i : ℕ) (x q : K) → i < length xs → x ≡ get_or xs i x → IsStrictlySortedBy order ks
      → find (eq_by_cmp order q) ks ≡ find (eq_by_cmp order q) (take i xs)
      → find (eq_by_cmp order q) (insert_key order ks x) ≡ find (eq_by_cmp order q) (take (i + 1) xs)
  find_first ks xs i x q below is rises so_far =
      let more : take (i + 1) xs ≡ take i xs ++ x ∷ [] =
      (take_at_read xs i x below).1 ∙ ap (λ last. take i xs ++ last ∷ []) (sym is) in
      find_inserted ks x q rises
      ∙ ap (λ o. option_or o (cond (eq_by_cmp order q x) (Some x) None)) so_far
      ∙ sym (find_joined (eq_by_cmp order q) (take i xs) (x ∷ []))
      ∙ ap (find (eq_by_cmp order q)) (sym more)
