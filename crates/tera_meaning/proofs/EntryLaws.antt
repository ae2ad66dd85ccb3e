-- What maps mean, and how they compare, by their entries.
use Rattle.std.specs.Prelude.{◌≡◌, ◌≢◌, ◌↔◌, ◌⊎◌, true, List, [], ◌∷◌, map, Option, refl}
use Rattle.std.proofs.Common.{sym, ◌∙◌, ap, rules}
use Rattle.std.specs.BTreeMap.{insert_entry}
use Rattle.std.specs.Cmp.{IsTotalOrder}
use Rattle.std.specs.Cmp.Lexicographic.{slice_cmp}
use Rattle.std.specs.Option.{option_eq}
use Rattle.std.specs.Ordering.{on, eq_by_cmp}
use Rattle.std.specs.declared.cmp.Ordering.{Ordering}
use Rattle.std.specs.declared.cmp.Ordering.TheVariants.{Equal}
use Rattle.tera_meaning.specs.Form.{Form}
use Rattle.tera_meaning.proofs.KeyLaws.{key_total, form_total}
use Rattle.tera_meaning.proofs.UniqueLaws.{same_rising, rising_permutes, only_rising}
use Rattle.std.specs.List.Sorted.{IsPermutation}
use Rattle.tera_meaning.specs.KeyMeaning.{KeyForm, KeyMeaning, key_meaning, key_order}
use Rattle.tera_meaning.specs.Meaning.{Meaning, meaning, pair_meaning, map_meaning}
use Rattle.tera_meaning.specs.Order.{compare, pair_order}
use Rattle.tera_meaning.proofs.OrderLaws.{members_exact, members_by_first_difference, compare_same, compare_tie}
use Rattle.tera_meaning.specs.Pairs.{HasDistinctKeys, Rises, rising, value_at, entry_order, AgreeEverywhere, IsLeastDifference, order_at, key_form_order}
use Rattle.tera_meaning.specs.Pairs.{pairs_of}
use Rattle.tera_meaning.specs.Tree.{object, members, members_list}
use Rattle.tera_meaning.proofs.TreeLaws.{list_of_members}
use Rattle.tera_meaning.proofs.MeaningLaws.{map_means, found_meant, length_meant, only_meant}
use Rattle.tera_meaning.proofs.PairLaws.{rising_rises, rising_itself, found_rising, more_rising}
use Rattle.tera_meaning.proofs.DifferenceLaws.{difference_decides, agreeing_tie, agree_rising, entries_decide, entries_tie, least_or_none}

-- ---- keys and values read through functions

module _ {J K U V : Type 0} (f : J → K) (g : U → V) (order : K → K → Ordering) where
  read : J × U → K × V
  read p = (f p.0, g p.1)

  insert_read : (k : J) (v : U) (es : List (J × U)) → map read (insert_entry (on f order) es k v) ≡ insert_entry order (map read es) (f k) (g v)
  unfolding read
  insert_read k v [] = refl
  insert_read k v (e ∷ es) = search (rules, read, (insert_read k v es))

  rising_read : (es : List (J × U)) → map (λ p. (f p.0, g p.1)) (rising (on f order) es) ≡ rising order (map (λ p. (f p.0, g p.1)) es)
  unfolding read
  rising_read [] = refl
  rising_read (e ∷ es) = insert_read e.0 e.1 (rising (on f order) es) ∙ ap (λ ys. insert_entry order ys (f e.0) (g e.1)) (rising_read es)

  slice_read : (values : V → V → Ordering) (xs ys : List (J × U))
      → slice_cmp (entry_order order values) (map (λ p. (f p.0, g p.1)) xs) (map (λ p. (f p.0, g p.1)) ys)
      ≡ slice_cmp (entry_order (on f order) (on g values)) xs ys
  slice_read values (x ∷ xs) (y ∷ ys) = search (rules, (slice_read values xs ys))
  slice_read values x1 x2 = search rules

-- ---- how maps compare

pub maps_decide : (ps qs : List (KeyMeaning × Meaning)) (k : KeyMeaning) → Rises key_order ps → Rises key_order qs → IsLeastDifference key_order compare ps qs k
    → compare (object (members ps)) (object (members qs)) ≡ order_at key_order compare ps qs k
maps_decide ps qs k h g least = members_by_first_difference ps qs ∙ difference_decides key_order key_total compare ps qs k h g least

pub rising_means : (es : List (KeyForm × Form)) → map pair_meaning (pairs_of es) ≡ rising key_order (map pair_meaning es)
rising_means es = rising_read key_meaning meaning key_order es

compare_forms : (es fs : List (KeyForm × Form)) → compare (map_meaning es) (map_meaning fs)
    ≡ slice_cmp (entry_order key_form_order (on meaning compare)) (pairs_of es) (pairs_of fs)
compare_forms es fs =
    (λ i. compare (map_means es i) (map_means fs i))
    ∙ members_by_first_difference (rising key_order (map pair_meaning es)) (rising key_order (map pair_meaning fs))
    ∙ (λ i. slice_cmp pair_order (sym (rising_means es) i) (sym (rising_means fs) i))
    ∙ slice_read key_meaning meaning key_order compare (pairs_of es) (pairs_of fs)

pub forms_decide : (es fs : List (KeyForm × Form)) (k : KeyForm) → IsLeastDifference key_form_order (on meaning compare) es fs k
    → compare (map_meaning es) (map_meaning fs) ≡ order_at key_form_order (on meaning compare) es fs k
forms_decide es fs k least = search (rules, compare_forms, entries_decide, form_total)

pub forms_tie : (es fs : List (KeyForm × Form))
    → AgreeEverywhere key_form_order (on meaning compare) es fs ↔ (compare (map_meaning es) (map_meaning fs) ≡ Equal)
forms_tie es fs = search (rules, entries_tie, form_total, compare_forms)

pub forms_equal : (es fs : List (KeyForm × Form)) → AgreeEverywhere key_form_order (on meaning compare) es fs ↔ (map_meaning es ≡ map_meaning fs)
forms_equal es fs =
    let tie : (compare (map_meaning es) (map_meaning fs) ≡ Equal) ↔ (map_meaning es ≡ map_meaning fs) = compare_tie (map_meaning es) (map_meaning fs) in
    (λ agree. tie.0 ((forms_tie es fs).0 agree), λ e. (forms_tie es fs).1 (tie.1 e))

-- ---- maps that mean different things have a least key at which they differ

the_other : {A B : Type 0} → (A → ⊥) → A ⊎ B → B
the_other n x1 = search rules

pub maps_differ : (ps qs : List (KeyMeaning × Meaning)) → Rises key_order ps → Rises key_order qs → object (members ps) ≢ object (members qs)
    → (k : KeyMeaning) × IsLeastDifference key_order compare ps qs k
maps_differ ps qs h g n =
    the_other (λ agree. n ((compare_tie (object (members ps)) (object (members qs))).0
    (members_by_first_difference ps qs ∙ (agreeing_tie key_order key_total compare ps qs h g).0 agree)))
    (least_or_none key_order key_total compare ps qs h g)

pub forms_differ : (es fs : List (KeyForm × Form)) → map_meaning es ≢ map_meaning fs → (k : KeyForm)
    × IsLeastDifference key_form_order (on meaning compare) es fs k
forms_differ es fs n =
    let total : IsTotalOrder key_form_order = form_total in
    let found : (k : KeyForm) × IsLeastDifference key_form_order (on meaning compare) (pairs_of es) (pairs_of fs) k =
    the_other (λ agree. n ((compare_tie (map_meaning es) (map_meaning fs)).0
    (compare_forms es fs ∙ (agreeing_tie key_form_order total (on meaning compare) (pairs_of es) (pairs_of fs)
    (rising_rises key_form_order total es) (rising_rises key_form_order total fs)).0 agree)))
    (least_or_none key_form_order total (on meaning compare) (pairs_of es) (pairs_of fs) (rising_rises key_form_order total es)
    (rising_rises key_form_order total fs)) in (
      found.0,
      (
        sym (agree_rising key_form_order total (on meaning compare) es fs found.0)
            ∙ found.1.0,
        λ l m. sym (agree_rising key_form_order total (on meaning compare) es fs l) ∙ found.1.1 l m,
      ),
    )

-- ---- the order in which the entries stand does not count

pub in_places : (es : List (KeyForm × Form)) → map_meaning (pairs_of es) ≡ map_meaning es
in_places es = search (rules, map_means, rising_means, rising_itself, key_total, rising_rises)

pub reordered : (es fs : List (KeyForm × Form)) → HasDistinctKeys key_form_order es → IsPermutation es fs → map_meaning es ≡ map_meaning fs
reordered es fs h same = sym (in_places es) ∙ ap map_meaning (same_rising key_form_order form_total es fs h same) ∙ in_places fs

-- ---- pair lists that find the same

alike : (o : Option Meaning) → option_eq (eq_by_cmp compare) o o ≡ true
alike x0 = search (rules, compare_same)

pub one_pair_list : (ps qs : List (KeyMeaning × Meaning)) → Rises key_order ps → Rises key_order qs
    → ((k : KeyMeaning) → value_at key_order ps k ≡ value_at key_order qs k) → ps ≡ qs
one_pair_list ps qs h g same =
    let agree : AgreeEverywhere key_order compare ps qs = (λ k. ap (λ o. option_eq (eq_by_cmp compare) o (value_at key_order qs k)) (same k)
    ∙ alike (value_at key_order qs k)) in
    let tie : compare (object (members ps)) (object (members qs)) ≡ Equal = members_by_first_difference ps qs
    ∙ (agreeing_tie key_order key_total compare ps qs h g).0 agree in
    sym (list_of_members ps) ∙ ap members_list (members_exact (members ps) (members qs) tie) ∙ list_of_members qs

pub ruleset entries = (map_means, found_meant, length_meant, only_meant, in_places, reordered, one_pair_list)

pub ruleset differences = (maps_decide, forms_decide, forms_tie, forms_equal, maps_differ, forms_differ)

pub ruleset pair_lists = (form_total, rising_rises, found_rising, more_rising, rising_permutes, only_rising, same_rising)
