-- The items of arrays and the pairs of maps: how many, how deep, and the first that differ.
use Rattle.std.specs.Prelude.{◌≡◌, true, not, nat_eq, ◌<◌, ◌≤◌, ℕ, Some, zero, suc, min, max, List, [], ◌∷◌, length, refl}
use Rattle.std.proofs.Common.{sym, ◌∙◌, ap, subst, arith, get_or, take, drop}
use Rattle.std.proofs.lemmas.Grind.{common_steps}
use Rattle.std.specs.Cmp.{nat_cmp_is, ranks}
use Rattle.std.specs.Ordering.{MatchOrdering, nat_cmp}
use Rattle.std.specs.declared.cmp.Ordering.{Ordering}
use Rattle.std.specs.declared.cmp.Ordering.TheVariants.{Less, Equal, Greater}
use Rattle.tera_meaning.proofs.ChainedLaws.{less_nat}
use Rattle.tera_meaning.specs.Form.{Form}
use Rattle.tera_meaning.specs.KeyMeaning.{KeyForm}
use Rattle.tera_meaning.specs.Meaning.{meaning}
use Rattle.tera_meaning.specs.Order.{compare}
use Rattle.tera_meaning.specs.Read.{items_in, members_in, is_nonempty}
use Rattle.tera_meaning.proofs.MeaningLaws.{meant_items}
use Rattle.tera_meaning.specs.Pairs.{HasDistinctKeys, key_form_order}
use Rattle.tera_meaning.proofs.TreeLaws.{items_of_list, list_of_members, members_of_list}
use Rattle.tera_meaning.specs.Tree.{undefined, none, truth, number, text, bytes, object, array, items, items_list, members, members_list, depth, items_depth}
use Rattle.tera_meaning.specs.Tree.{members_depth}
use Rattle.tera_meaning.specs.WellMade.{IsWellMade, IsWellMadeKey, AreWellMade, AreWellMadeMembers}

pub meant_length : (xs : List Form) → length (items_list (meant_items (items xs))) ≡ length xs
meant_length [] = refl
meant_length (x ∷ xs) = ap suc (meant_length xs)

-- a map has pairs where their number is not zero
pub counted_pairs : (ps : List (KeyForm × Form)) → not (nat_eq (length ps) 0) ≡ is_nonempty ps
counted_pairs [] = refl
counted_pairs (p ∷ ps) = let some : not (nat_eq (suc (length ps)) 0) ≡ true = grind (arith, common_steps) in some

-- the values of the pairs that are left are less deep than their map
pub first_depth : (left rest : List (KeyForm × Form)) (p : KeyForm × Form) → left ≡ p ∷ rest
    → (depth p.1 ≤ members_depth (members left)) × (members_depth (members rest) ≤ members_depth (members left))
first_depth left rest p is =
    let same : members_depth (members left) ≡ max (depth p.1) (members_depth (members rest)) = ap (λ l. members_depth (members l)) is in
    (omega arith, omega arith)

-- what holds these pairs is the map of them
pub map_of_members : (v : Form) (ps : List (KeyForm × Form)) → members_in v ≡ Some ps → object (members ps) ≡ v
map_of_members (object qs) ps e = let same : ps ≡ members_list qs = cc in ap object (ap members same ∙ members_of_list qs)
map_of_members undefined ps e = cc
map_of_members none ps e = cc
map_of_members (truth b) ps e = cc
map_of_members (number n) ps e = cc
map_of_members (text t) ps e = cc
map_of_members (bytes bs) ps e = cc
map_of_members (array xs) ps e = cc

-- an item is no deeper than the deepest
pub depth_at : (xs : List Form) (i : ℕ) (x : Form) → i < length xs → x ≡ get_or xs i x
    → depth x ≤ items_depth (items xs)
depth_at [] i x h e = absurd (omega arith)
depth_at (y ∷ ys) zero x h e = let same : depth x ≡ depth y = ap depth e in omega arith
depth_at (y ∷ ys) (suc i) x h e = omega (arith, depth_at ys i x (omega arith) e)

some_one : (xs ys : List Form) → Some xs ≡ Some ys → xs ≡ ys
some_one xs ys e = cc

-- what holds these items is the array of them
pub array_of_items : (v : Form) (xs : List Form) → items_in v ≡ Some xs → array (items xs) ≡ v
array_of_items (array ys) xs e = ap array (ap items (sym (some_one (items_list ys) xs e)) ∙ items_of_list ys)
array_of_items undefined xs e = cc
array_of_items none xs e = cc
array_of_items (truth b) xs e = cc
array_of_items (number n) xs e = cc
array_of_items (text t) xs e = cc
array_of_items (bytes bs) xs e = cc
array_of_items (object ps) xs e = cc

abbrev pub lists_order : List Form → List Form → Ordering
lists_order xs ys = compare (meaning (array (items xs))) (meaning (array (items ys)))

one_more : (m n : ℕ) (r : Ordering) → MatchOrdering r (m < n) (m ≡ n) (n < m)
    → MatchOrdering r (suc m < suc n) (suc m ≡ suc n) (suc n < suc m)
one_more m n Less h = omega arith
one_more m n Equal h = ap suc h
one_more m n Greater h = omega arith

pub nat_cmp_suc : (m n : ℕ) → nat_cmp m n ≡ nat_cmp (suc m) (suc n)
nat_cmp_suc m n = nat_cmp_is (suc m) (suc n) (nat_cmp m n) (one_more m n (nat_cmp m n) (ranks m n))

-- where one has ended the lengths decide
pub order_ended : (xs ys : List Form) (n : ℕ) → n ≡ min (length xs) (length ys)
    → lists_order (drop n xs) (drop n ys) ≡ nat_cmp (length xs) (length ys)
order_ended [] [] zero e = refl
order_ended [] (y ∷ ys) zero e = sym (less_nat 0 (length (y ∷ ys)) (omega arith))
order_ended (x ∷ xs) [] zero e = nat_cmp_is (length (x ∷ xs)) 0 Greater (omega arith)
order_ended (x ∷ xs) (y ∷ ys) zero e = absurd (omega arith)
order_ended [] ys (suc n) e = absurd (omega arith)
order_ended (x ∷ xs) [] (suc n) e = absurd (omega arith)
order_ended (x ∷ xs) (y ∷ ys) (suc n) e = order_ended xs ys n (omega arith) ∙ nat_cmp_suc (length xs) (length ys)

-- where the first i are well made and the next is, one more are
pub one_more_well_made : (xs : List Form) (i : ℕ) (x : Form) → i < length xs → x ≡ get_or xs i x
    → AreWellMade (items (take i xs)) → IsWellMade x → AreWellMade (items (take (suc i) xs))
one_more_well_made [] i x h e made next = absurd (omega arith)
one_more_well_made (y ∷ ys) zero x h e made next = (subst IsWellMade e next, tt)
one_more_well_made (y ∷ ys) (suc i) x h e made next = (made.0, one_more_well_made ys i x (omega arith) e made.1 next)

-- what is well made so far and what is left to be shown are all
abbrev pub AreMadeBut : List (KeyForm × Form) → List (KeyForm × Form) → Type 0
AreMadeBut all left = AreWellMadeMembers (members left) → AreWellMadeMembers (members all)

pub one_more_made : (all left rest : List (KeyForm × Form)) (p : KeyForm × Form) → left ≡ p ∷ rest → AreMadeBut all left → IsWellMadeKey p.0 → IsWellMade p.1
    → AreMadeBut all rest
one_more_made all left rest p is h key value made = h (subst (λ l. AreWellMadeMembers (members l)) (sym is) (key, value, made))

pub map_made : (ps : List (KeyForm × Form)) → HasDistinctKeys key_form_order ps → AreWellMadeMembers (members ps) → IsWellMade (object (members ps))
map_made ps distinct made = (subst (HasDistinctKeys key_form_order) (sym (list_of_members ps)) distinct, made)
