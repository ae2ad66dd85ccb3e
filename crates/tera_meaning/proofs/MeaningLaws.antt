-- What arrays and maps mean, by their items and pairs.
use Rattle.std.specs.Prelude.{◌≡◌, ◌↔◌, ℕ, ℤ, Bool, true, cond, List, [], ◌∷◌, map, length, Option, Some, refl}
use Rattle.std.proofs.Common.{sym, ◌∙◌, ap, rules}
use Rattle.std.proofs.lemmas.List.{length-map}
use Rattle.std.specs.BTreeMap.{insert_entry}
use Rattle.std.specs.List.{Contains}
use Rattle.std.specs.Map.{lookup}
use Rattle.std.specs.Option.{option_map}
use Rattle.std.specs.Ordering.{eq_by_cmp}
use Rattle.tera_meaning.specs.Form.{Form, MarkedText}
use Rattle.tera_meaning.specs.Integer.{Integer}
use Rattle.tera_meaning.specs.KeyMeaning.{KeyForm, KeyMeaning, key_meaning, key_order}
use Rattle.tera_meaning.specs.Meaning.{Meaning, layout, sorted_items, sorted_pairs, meaning, pair_meaning, map_meaning}
use Rattle.tera_meaning.specs.Pairs.{Rises, HasDistinctKeys, put, rising, value_at, key_form_order}
use Rattle.tera_meaning.specs.Read.{is_nonempty, size_in, truthy_in}
use Rattle.tera_meaning.specs.Tree.{Items, Members, array, object, no_items, item, no_members, member, items, items_list, members, members_list}
use Rattle.tera_meaning.specs.Tree.{relabeled_items, relabeled_members}
use Rattle.tera_meaning.proofs.KeyLaws.{key_total, form_total}
use Rattle.tera_meaning.proofs.PairLaws.{found_rising}
use Rattle.tera_meaning.proofs.PutLaws.{rising_put, put_read, distinct_read, put_last, put_in_place, length_put, distinct_put, distinct_put_all, found_put}
use Rattle.tera_meaning.proofs.TreeLaws.{items_relabeled, members_relabeled, list_of_members}
use Rattle.tera_meaning.proofs.UniqueLaws.{only_rising, rising_length}

-- how items and pairs are laid out, and what they mean
abbrev pub layout_items : Items Integer MarkedText KeyForm → Items ℤ (List ℕ) KeyMeaning
layout_items xs = relabeled_items (λ n. n.value) (λ t. t.spelled) key_meaning xs

abbrev pub layout_members : Members Integer MarkedText KeyForm → Members ℤ (List ℕ) KeyMeaning
layout_members ps = relabeled_members (λ n. n.value) (λ t. t.spelled) key_meaning ps

abbrev pub meant_items : Items Integer MarkedText KeyForm → Items ℤ (List ℕ) KeyMeaning
meant_items xs = sorted_items (layout_items xs)

abbrev pub meant_pairs : Members Integer MarkedText KeyForm → List (KeyMeaning × Meaning)
meant_pairs ps = rising key_order (sorted_pairs (layout_members ps))

pub items_meant : (xs : Items Integer MarkedText KeyForm) → items_list (meant_items xs) ≡ map meaning (items_list xs)
items_meant no_items = refl
items_meant (item x xs) = ap (λ l. meaning x ∷ l) (items_meant xs)

pub items_laid_out : (xs : Items Integer MarkedText KeyForm) → items_list (layout_items xs) ≡ map layout (items_list xs)
items_laid_out no_items = refl
items_laid_out (item x xs) = ap (λ l. layout x ∷ l) (items_laid_out xs)

pub pairs_meant : (ps : Members Integer MarkedText KeyForm) → sorted_pairs (layout_members ps) ≡ map pair_meaning (members_list ps)
pairs_meant no_members = refl
pairs_meant (member k x ps) = ap (λ l. (key_meaning k, meaning x) ∷ l) (pairs_meant ps)

-- ---- arrays and maps of lists

pub array_laid_out : (xs : List Form) → layout (array (items xs)) ≡ array (items (map layout xs))
array_laid_out xs = search (rules, items_relabeled)

pub map_laid_out : (ps : List (KeyForm × Form)) → layout (object (members ps)) ≡ object (members (map (λ p. (key_meaning p.0, layout p.1)) ps))
map_laid_out ps = search (rules, members_relabeled)

list_means : (xs : List Form) → meant_items (items xs) ≡ items (map meaning xs)
list_means [] = refl
list_means (x ∷ xs) = ap (item (meaning x)) (list_means xs)

pub array_means : (xs : List Form) → meaning (array (items xs)) ≡ array (items (map meaning xs))
array_means xs = ap (λ (ys : Items ℤ (List ℕ) KeyMeaning). array ys) (list_means xs)

-- a map means the rising list of what its pairs mean
pub map_means : (ps : List (KeyForm × Form)) → meaning (object (members ps)) ≡ object (members (rising key_order (map pair_meaning ps)))
map_means ps = search (rules, pairs_meant, list_of_members)

-- ---- what is found in that list, and how long it is

pub picked : {X Y : Type 0} (f : X → Y) (b : Bool) (x : X) (o : Option X) → option_map f (cond b (Some x) o) ≡ cond b (Some (f x)) (option_map f o)
picked f x1 x o = search rules

found_there : (ps : List (KeyForm × Form)) (k : KeyMeaning)
    → option_map meaning (lookup (λ l. eq_by_cmp key_order k (key_meaning l)) ps) ≡ value_at key_order (map pair_meaning ps) k
found_there [] k = refl
found_there (p ∷ ps) k = search (rules, picked, (found_there ps k))

pub found_laid_out : (ps : Members Integer MarkedText KeyForm) (k : KeyMeaning)
    → option_map layout (lookup (λ l. eq_by_cmp key_order k (key_meaning l)) (members_list ps))
    ≡ value_at key_order (members_list (layout_members ps)) k
found_laid_out no_members k = refl
found_laid_out (member l x ps) k = search (rules, picked, (found_laid_out ps k))

pub found_meant : (ps : List (KeyForm × Form)) (k : KeyForm)
    → value_at key_order (rising key_order (map pair_meaning ps)) (key_meaning k) ≡ option_map meaning (value_at key_form_order ps k)
found_meant ps k = found_rising key_order key_total (map pair_meaning ps) (key_meaning k) ∙ sym (found_there ps (key_meaning k))

pub found_pair : (ps : Members Integer MarkedText KeyForm) (k : KeyMeaning)
    → option_map meaning (lookup (λ l. eq_by_cmp key_order k (key_meaning l)) (members_list ps))
    ≡ value_at key_order (members_list (members (meant_pairs ps))) k
found_pair ps k = search (rules, found_there, found_rising, key_total, pairs_meant, list_of_members)

pub distinct_meant : (ps : List (KeyForm × Form)) → HasDistinctKeys key_form_order ps → HasDistinctKeys key_order (map pair_meaning ps)
distinct_meant ps h = distinct_read key_meaning meaning key_order ps h

pub length_meant : (ps : List (KeyForm × Form)) → HasDistinctKeys key_form_order ps → length (rising key_order (map pair_meaning ps)) ≡ length ps
length_meant ps h = rising_length key_order key_total (map pair_meaning ps) (distinct_meant ps h) ∙ length-map ps pair_meaning

-- it is the only rising list of just these pairs
pub only_meant : (ps : List (KeyForm × Form)) (qs : List (KeyMeaning × Meaning)) → HasDistinctKeys key_form_order ps → Rises key_order qs
    → ((q : KeyMeaning × Meaning) → Contains qs q ↔ Contains (map pair_meaning ps) q) → qs ≡ rising key_order (map pair_meaning ps)
only_meant ps qs h = only_rising key_order key_total (map pair_meaning ps) qs (distinct_meant ps h)

pub size_meant : (ps : List (KeyForm × Form)) → HasDistinctKeys key_form_order ps → size_in (meaning (object (members ps))) ≡ Some (length ps)
size_meant ps h = search (rules, map_means, list_of_members, length_meant)

some_inserted : (qs : List (KeyMeaning × Meaning)) (k : KeyMeaning) (x : Meaning) → is_nonempty (insert_entry key_order qs k x) ≡ true
some_inserted [] k x = refl
some_inserted (q ∷ qs) k x = search rules

some_meant : (ps : List (KeyForm × Form)) → is_nonempty (rising key_order (map pair_meaning ps)) ≡ is_nonempty ps
some_meant x0 = search (rules, some_inserted)

pub truthy_meant : (ps : List (KeyForm × Form)) → truthy_in (meaning (object (members ps))) ≡ is_nonempty ps
truthy_meant ps = search (rules, map_means, some_meant)

-- ---- what is put at a key takes its place in what the map means

pub put_means : (ps : List (KeyForm × Form)) (k : KeyForm) (v : Form)
    → map_meaning (put key_form_order ps k v)
    ≡ object (members (insert_entry key_order (rising key_order (map pair_meaning ps)) (key_meaning k) (meaning v)))
put_means ps k v =
    map_means (put key_form_order ps k v)
    ∙ ap (λ qs. object (members (rising key_order qs))) (put_read key_meaning meaning key_order ps k v)
    ∙ ap (λ qs. object (members qs)) (rising_put key_order key_total (map pair_meaning ps) (key_meaning k) (meaning v))

pub ruleset laws = (size_meant, truthy_meant, array_laid_out, array_means, map_laid_out)

pub ruleset puts = (put_last, put_in_place, length_put, form_total, distinct_put, distinct_put_all, found_put, rising_put, put_means)
