-- Values that are laid out alike print alike, and what is exact is so by its parts.
use Rattle.std.proofs.lemmas.Bool.{and_parts, and_from, lt-ltb}
use Rattle.std.specs.Prelude.{◌↔◌, ℕ, suc, ◌&&◌, IsTrue, List, [], ◌∷◌, refl}
use Rattle.std.proofs.Common.{ltb-true, rules}
use Rattle.std.specs.Char.{is_ascii}
use Rattle.std.specs.List.{All, AllByRecursion, list_all}
use Rattle.std.specs.Str.{IsAscii}
use Rattle.std.proofs.lemmas.List.Elements.{All-from_recursion, recursion_from_All}
use Rattle.std.proofs.lemmas.Str.Ascii.{IsAscii-nil, IsAscii-cons}
use Rattle.tera_meaning.specs.KeyMeaning.{KeyMeaning}
use Rattle.tera_meaning.specs.Meaning.{Layout}
use Rattle.tera_meaning.specs.Printed.{IsExactInside, IsExactKey, are_exact_items, are_exact_members, is_exact_inside, is_exact_key}
use Rattle.tera_meaning.specs.Tree.{items, members}
use Rattle.std.proofs.lemmas.Grind.{common_steps}

-- ---- what is exact by its parts

ascii_told : (t : List ℕ) → IsTrue (list_all is_ascii t) → IsAscii t
ascii_told x0 h = search (rules, common_steps, IsAscii-nil, and_parts, IsAscii-cons, ltb-true)

ascii_tells : (t : List ℕ) → IsAscii t → IsTrue (list_all is_ascii t)
ascii_tells [] h = refl
ascii_tells (b ∷ t) h =
    and_from (is_ascii b) (list_all is_ascii t) (lt-ltb b 128 (h 0)) (ascii_tells t (λ i. h (suc i)))

pub ascii_is : (t : List ℕ) → IsTrue (list_all is_ascii t) ↔ IsAscii t
ascii_is t = (ascii_told t, ascii_tells t)

items_told : (xs : List Layout) → IsTrue (are_exact_items (items xs)) → AllByRecursion IsExactInside xs
items_told [] h = tt
items_told (x ∷ xs) h =
    let both : IsExactInside x × IsTrue (are_exact_items (items xs)) = and_parts (is_exact_inside x) (are_exact_items (items xs)) h in
    (both.0, items_told xs both.1)

items_tell : (xs : List Layout) → AllByRecursion IsExactInside xs → IsTrue (are_exact_items (items xs))
items_tell [] h = refl
items_tell (x ∷ xs) h = and_from (is_exact_inside x) (are_exact_items (items xs)) h.0 (items_tell xs h.1)

pub exact_items : (xs : List Layout) → IsTrue (are_exact_items (items xs)) ↔ All IsExactInside xs
exact_items xs = search (rules, All-from_recursion, items_told, items_tell, recursion_from_All)

members_told : (ps : List (KeyMeaning × Layout)) → IsTrue (are_exact_members (members ps)) → AllByRecursion (λ p. IsExactKey p.0 × IsExactInside p.1) ps
members_told [] h = tt
members_told (p ∷ ps) h =
    let key : IsExactKey p.0 × IsTrue (is_exact_inside p.1 && are_exact_members (members ps)) =
    and_parts (is_exact_key p.0) (is_exact_inside p.1 && are_exact_members (members ps)) h in
    let both : IsExactInside p.1 × IsTrue (are_exact_members (members ps)) = and_parts (is_exact_inside p.1) (are_exact_members (members ps)) key.1 in
    ((key.0, both.0), members_told ps both.1)

members_tell : (ps : List (KeyMeaning × Layout)) → AllByRecursion (λ p. IsExactKey p.0 × IsExactInside p.1) ps → IsTrue (are_exact_members (members ps))
members_tell [] h = refl
members_tell (p ∷ ps) h = search (rules, and_from, (members_tell ps h.1))

pub exact_members : (ps : List (KeyMeaning × Layout)) → IsTrue (are_exact_members (members ps)) ↔ All (λ p. IsExactKey p.0 × IsExactInside p.1) ps
exact_members ps = search (rules, All-from_recursion, members_told, members_tell, recursion_from_All)

pub ruleset laws = (exact_items, exact_members)
