-- What a layout means is well made and exact where the layout is; and a meaning is its own layout, and means itself.
use Rattle.std.specs.Prelude.{◌≡◌, ℕ, ℤ, Bool, false, cond, ◌&&◌, List, [], ◌∷◌, Some, None, refl}
use Rattle.std.proofs.Common.{sym, ◌∙◌, ap, subst, rules}
use Rattle.std.proofs.lemmas.Map.Keys.{IsDistinct-from_sorted}
use Rattle.std.proofs.lemmas.Option.{none-some}
use Rattle.std.specs.BTreeMap.{insert_entry}
use Rattle.std.specs.List.{AllByRecursion, IsDistinct}
use Rattle.std.specs.Map.{keys_of}
use Rattle.std.specs.Ordering.{eq_by_cmp}
use Rattle.tera_meaning.specs.KeyMeaning.{KeyMeaning, key_order}
use Rattle.tera_meaning.specs.Meaning.{Layout, Meaning, sorted, sorted_items, sorted_pairs}
use Rattle.tera_meaning.specs.Pairs.{HasDistinctKeys, Rises, rising, value_at}
use Rattle.tera_meaning.specs.Printed.{IsExact, is_exact, is_exact_inside, is_exact_key, are_exact_items, are_exact_members}
use Rattle.tera_meaning.specs.Tree.{Items, Members, number, text, bytes, array, object, no_items, item, no_members, member, members, members_list}
use Rattle.tera_meaning.specs.WellMade.{AreMadeOf, ArePairsOf, IsWellMadeKeyMeaning, IsWellMadeLayout, IsWellMadeMeaning}
use Rattle.tera_meaning.proofs.KeyLaws.{key_total}
use Rattle.tera_meaning.proofs.PairLaws.{found_rising, rising_itself, rising_rises}
use Rattle.tera_meaning.proofs.TreeLaws.{list_of_members, members_of_list}

insert_well : (k : KeyMeaning) (x : Meaning) (ps : List (KeyMeaning × Meaning)) → IsWellMadeKeyMeaning k → IsWellMadeMeaning x
    → ArePairsOf (Rises key_order) (members ps) → ArePairsOf (Rises key_order) (members (insert_entry key_order ps k x))
insert_well k x [] h g rest = (h, g, tt)
insert_well k x (p ∷ ps) h g rest = search (rules, (insert_well k x ps h g rest.2))

mutual
  pub sorted_well : (x : Layout) → IsWellMadeLayout x → IsWellMadeMeaning (sorted x)
  sorted_well (number z) h = h
  sorted_well (text t) h = h
  sorted_well (bytes bs) h = h
  sorted_well (array xs) h = sorted_items_well xs h
  sorted_well (object ps) h = (
    subst (Rises key_order) (sym (list_of_members (rising key_order (sorted_pairs ps)))) (rising_rises key_order key_total (sorted_pairs ps)),
    sorted_pairs_well ps h.1,
  )
  sorted_well v h = tt

  sorted_items_well : (xs : Items ℤ (List ℕ) KeyMeaning) → AreMadeOf (HasDistinctKeys key_order) xs → AreMadeOf (Rises key_order) (sorted_items xs)
  sorted_items_well no_items h = tt
  sorted_items_well (item x xs) h = (sorted_well x h.0, sorted_items_well xs h.1)

  sorted_pairs_well : (ps : Members ℤ (List ℕ) KeyMeaning) → ArePairsOf (HasDistinctKeys key_order) ps
      → ArePairsOf (Rises key_order) (members (rising key_order (sorted_pairs ps)))
  sorted_pairs_well no_members h = tt
  sorted_pairs_well (member k x ps) h =
      insert_well k (sorted x) (rising key_order (sorted_pairs ps)) h.0 (sorted_well x h.1) (sorted_pairs_well ps h.2)

-- ---- a meaning is a layout

mutual
  pub meaning_is_layout : (x : Meaning) → IsWellMadeMeaning x → IsWellMadeLayout x
  meaning_is_layout (number z) h = h
  meaning_is_layout (text t) h = h
  meaning_is_layout (bytes bs) h = h
  meaning_is_layout (array xs) h = meanings_are_layouts xs h
  meaning_is_layout (object ps) h = (IsDistinct-from_sorted key_order (keys_of (members_list ps)) h.0, pairs_are_layouts ps h.1)
  meaning_is_layout v h = tt

  meanings_are_layouts : (xs : Items ℤ (List ℕ) KeyMeaning) → AreMadeOf (Rises key_order) xs → AreMadeOf (HasDistinctKeys key_order) xs
  meanings_are_layouts no_items h = tt
  meanings_are_layouts (item x xs) h = (meaning_is_layout x h.0, meanings_are_layouts xs h.1)

  pairs_are_layouts : (ps : Members ℤ (List ℕ) KeyMeaning) → ArePairsOf (Rises key_order) ps → ArePairsOf (HasDistinctKeys key_order) ps
  pairs_are_layouts no_members h = tt
  pairs_are_layouts (member k x ps) h = (h.0, meaning_is_layout x h.1, pairs_are_layouts ps h.2)

-- ---- and means itself

mutual
  pub sorted_itself : (x : Meaning) → IsWellMadeMeaning x → sorted x ≡ x
  sorted_itself (array xs) h = ap array (items_themselves xs h)
  sorted_itself (object ps) h =
      ap (λ qs. object (members (rising key_order qs))) (pairs_themselves ps h.1)
      ∙ ap (λ qs. object (members qs)) (rising_itself key_order key_total (members_list ps) h.0)
      ∙ ap object (members_of_list ps)
  sorted_itself v h = refl

  items_themselves : (xs : Items ℤ (List ℕ) KeyMeaning) → AreMadeOf (Rises key_order) xs → sorted_items xs ≡ xs
  items_themselves no_items h = refl
  items_themselves (item x xs) h = λ i. item (sorted_itself x h.0 i) (items_themselves xs h.1 i)

  pairs_themselves : (ps : Members ℤ (List ℕ) KeyMeaning) → ArePairsOf (Rises key_order) ps → sorted_pairs ps ≡ members_list ps
  pairs_themselves no_members h = refl
  pairs_themselves (member k x ps) h = λ i. (k, sorted_itself x h.1 i) ∷ pairs_themselves ps h.2 i

-- ---- what a layout means is exact where the layout is

both_pairs : (a b c d e : Bool) → (c && (d && (a && (b && e)))) ≡ (a && (b && (c && (d && e))))
both_pairs x0 b c d e = search rules

exact_inserted : (k : KeyMeaning) (x : Meaning) (ps : List (KeyMeaning × Meaning)) → value_at key_order ps k ≡ None
    → are_exact_members (members (insert_entry key_order ps k x)) ≡ (is_exact_key k && (is_exact_inside x && are_exact_members (members ps)))
exact_inserted k x [] none = refl
exact_inserted k x (p ∷ ps) none = search (rules, none-some, both_pairs, (exact_inserted k x ps))

not_there : (k : KeyMeaning) (ps : Members ℤ (List ℕ) KeyMeaning) → AllByRecursion (λ l. eq_by_cmp key_order k l ≡ false) (keys_of (members_list ps))
    → value_at key_order (sorted_pairs ps) k ≡ None
not_there k no_members h = refl
not_there k (member l x ps) h = ap (λ b. cond b (Some (sorted x)) (value_at key_order (sorted_pairs ps) k)) h.0 ∙ not_there k ps h.1

mutual
  unfolding IsDistinct

  exact_as_meant : (x : Layout) → IsWellMadeLayout x → is_exact_inside (sorted x) ≡ is_exact_inside x
  exact_as_meant (array xs) h = exact_items_as_meant xs h
  exact_as_meant (object ps) h = exact_pairs_as_meant ps h.0 h.1
  exact_as_meant v h = refl

  exact_items_as_meant : (xs : Items ℤ (List ℕ) KeyMeaning) → AreMadeOf (HasDistinctKeys key_order) xs → are_exact_items (sorted_items xs) ≡ are_exact_items xs
  exact_items_as_meant no_items h = refl
  exact_items_as_meant (item x xs) h = λ i. exact_as_meant x h.0 i && exact_items_as_meant xs h.1 i

  exact_pairs_as_meant : (ps : Members ℤ (List ℕ) KeyMeaning) → HasDistinctKeys key_order (members_list ps) → ArePairsOf (HasDistinctKeys key_order) ps
      → are_exact_members (members (rising key_order (sorted_pairs ps))) ≡ are_exact_members ps
  exact_pairs_as_meant no_members g h = refl
  exact_pairs_as_meant (member k x ps) g h =
      exact_inserted k (sorted x) (rising key_order (sorted_pairs ps)) (found_rising key_order key_total (sorted_pairs ps) k ∙ not_there k ps g.0)
      ∙ (λ i. is_exact_key k && (exact_as_meant x h.1 i && exact_pairs_as_meant ps g.1 h.2 i))

alone_as_meant : (x : Layout) → IsWellMadeLayout x → is_exact (sorted x) ≡ is_exact x
alone_as_meant v h = search (rules, exact_items_as_meant, exact_pairs_as_meant)

-- so layouts of one meaning are exact together
pub exact_together : (x y : Layout) → IsWellMadeLayout x → IsWellMadeLayout y → sorted x ≡ sorted y → IsExact x → IsExact y
exact_together x y h g same exact = sym (alone_as_meant y g) ∙ ap is_exact (sym same) ∙ alone_as_meant x h ∙ exact

pub ruleset laws = (sorted_well, meaning_is_layout, sorted_itself)
