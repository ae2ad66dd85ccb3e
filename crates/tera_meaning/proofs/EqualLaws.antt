-- States are equal where they mean the same.
use Rattle.std.proofs.lemmas.Bool.{and_parts, and_from}
use Rattle.std.specs.Prelude.{◌≡◌, ◌↔◌, ℕ, Bool, ◌&&◌, T, IsTrue, List, [], ◌∷◌, map, refl}
use Rattle.std.proofs.Common.{sym, ◌∙◌, ap, rules}
use Rattle.std.specs.Option.{option_map}
use Rattle.std.specs.Ordering.{nat_cmp, is_lt}
use Rattle.std.specs.Cmp.{IsPartialEquivalence, partial_equiv_from_equiv, on_per, and_per}
use Rattle.std.specs.Cmp.Lexicographic.{slice_cmp, pointwise, lists_per, nat_list_cmp_total, nat_list_eq_equiv, bytes_decides}
use Rattle.std.specs.FinMap.{find, entries, entries_sorted, is_sorted, get-entries}
use Rattle.std.specs.FinMap.Entries.{below_all, same_entries}
use Rattle.std.specs.Str.{bytes_eq}
use Rattle.tera_meaning.specs.Alike.{MeanTheSame, meaning_held}
use Rattle.tera_meaning.specs.Form.{Form}
use Rattle.tera_meaning.specs.Meaning.{Meaning, meaning}
use Rattle.tera_meaning.specs.Order.{same}
use Rattle.tera_meaning.proofs.OrderLaws.{same_is, same_partial_equivalence}
use Rattle.tera_meaning.proofs.MeaningLaws.{picked}
use Rattle.tera_meaning.specs.State.{State, states_equal}
use Rattle.tera_meaning.proofs.StateLaws.{name_exact}

abbrev Pair : Type 0
Pair = List ℕ × Form

abbrev pub same_pair : Pair → Pair → Bool
same_pair p q = bytes_eq p.0 q.0 && same (meaning p.1) (meaning q.1)

pub states_equal_laws : IsPartialEquivalence states_equal
states_equal_laws =
    on_per entries (lists_per (and_per (on_per (λ (p : Pair). p.0) (partial_equiv_from_equiv nat_list_eq_equiv))
    (on_per (λ (p : Pair). meaning p.1) same_partial_equivalence)))

-- pairs by what they mean
abbrev meant : List Pair → List (List ℕ × Meaning)
meant pairs = map (λ p. (p.0, meaning p.1)) pairs

pair_same : (p q : Pair) → IsTrue (same_pair p q) → (p.0 ≡ q.0) × (meaning p.1 ≡ meaning q.1)
pair_same p q h = search (rules, and_parts, same_is)

same_meant : (ps qs : List Pair) → IsTrue (pointwise same_pair ps qs) → meant ps ≡ meant qs
same_meant (p ∷ ps) (q ∷ qs) h = search (rules, pair_same, and_parts, same_pair, (same_meant ps qs))
same_meant x0 x1 h = search rules

meant_same : (ps qs : List Pair) → meant ps ≡ meant qs → IsTrue (pointwise same_pair ps qs)
meant_same (p ∷ ps) (q ∷ qs) e =
    let first : ◌≡◌ {A = List ℕ × Meaning} (p.0, meaning p.1) (q.0, meaning q.1) = cc in
    let names : p.0 ≡ q.0 = ap (λ x. x.0) first in
    let values : meaning p.1 ≡ meaning q.1 = ap (λ x. x.1) first in
    let rest : meant ps ≡ meant qs = cc in
    and_from (same_pair p q) _ (and_from (bytes_eq p.0 q.0) _ ((bytes_decides p.0 q.0).1 names) ((same_is (meaning p.1) (meaning q.1)).1 values))
    (meant_same ps qs rest)
meant_same x0 x1 e = search rules

find_meant : (name : List ℕ) (ps : List Pair)
    → find (slice_cmp nat_cmp) name (meant ps) ≡ option_map meaning (find (slice_cmp nat_cmp) name ps)
find_meant name [] = refl
find_meant name (p ∷ ps) = search (rules, slice_cmp, picked, find, (find_meant name ps))

below_meant : (name : List ℕ) (ps : List Pair) → below_all (slice_cmp nat_cmp) name (meant ps) ≡ below_all (slice_cmp nat_cmp) name ps
below_meant name [] = refl
below_meant name (p ∷ ps) = ap (λ b. is_lt (slice_cmp nat_cmp name p.0) && b) (below_meant name ps)

sorted_meant : (ps : List Pair) → is_sorted (slice_cmp nat_cmp) (meant ps) ≡ is_sorted (slice_cmp nat_cmp) ps
sorted_meant [] = refl
sorted_meant (p ∷ ps) = λ i. below_meant p.0 ps i && sorted_meant ps i

held_meant : (state : State) (name : List ℕ)
    → meaning_held state name ≡ find (slice_cmp nat_cmp) name (meant (entries state))
held_meant state name = search (rules, get-entries, find_meant)

rises_meant : (state : State) → T (is_sorted (slice_cmp nat_cmp) (meant (entries state)))
rises_meant state = search (rules, sorted_meant, entries_sorted)

means_the_same : (f g : State) → IsTrue (states_equal f g) → MeanTheSame f g
means_the_same f g h name = search (rules, held_meant, slice_cmp, same_meant, entries)

are_equal : (f g : State) → MeanTheSame f g → IsTrue (states_equal f g)
are_equal f g same =
    meant_same (entries f) (entries g) (same_entries (slice_cmp nat_cmp) nat_list_cmp_total name_exact (meant (entries f)) (meant (entries g)) (rises_meant f)
    (rises_meant g) (λ name.
    sym (held_meant f name) ∙ same name ∙ held_meant g name))

pub equal_is : (f g : State) → IsTrue (states_equal f g) ↔ MeanTheSame f g
equal_is f g = (means_the_same f g, are_equal f g)
