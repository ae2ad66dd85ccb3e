-- Each well-made layout is that of a well-made form, and so is each well-made meaning.
use Rattle.std.specs.Prelude.{◌≡◌, ℕ, ℤ, pos, negsuc, false, List, refl}
use Rattle.std.proofs.Common.{◌∙◌, ap, rules}
use Rattle.std.specs.List.{AllByRecursion, IsDistinct}
use Rattle.std.specs.Map.{keys_of}
use Rattle.std.specs.Ordering.{eq_by_cmp}
use Rattle.tera_meaning.specs.Form.{Form, MarkedText}
use Rattle.tera_meaning.specs.Integer.{Integer, u128, i128, IsOfKind, IsWide}
use Rattle.tera_meaning.specs.KeyMeaning.{KeyForm, KeyMeaning, truth_key, number_key, text_key, owned, key_meaning, key_order}
use Rattle.tera_meaning.specs.Meaning.{Layout, Meaning, layout, meaning}
use Rattle.tera_meaning.specs.Pairs.{HasDistinctKeys, key_form_order}
use Rattle.tera_meaning.specs.Tree.{Items, Members, number, text, bytes, array, object, no_items, item, no_members, member, members_list, relabeled}
use Rattle.tera_meaning.specs.Tree.{relabeled_items, relabeled_members}
use Rattle.tera_meaning.specs.WellMade.{IsWellMade, IsWellMadeKey, AreWellMade, AreWellMadeMembers, IsWellMadeLayout, IsWellMadeMeaning, IsWellMadeKeyMeaning}
use Rattle.tera_meaning.specs.WellMade.{AreMadeOf, ArePairsOf}
use Rattle.tera_meaning.proofs.MeaningLaws.{layout_items, layout_members}
use Rattle.tera_meaning.proofs.SortedLemmas.{meaning_is_layout, sorted_itself}

-- a form for each layout: numbers in the widest kinds, texts without the flag, and keys that own
-- their texts
abbrev integer_of : ℤ → Integer
integer_of (pos n) = record { kind = u128; value = pos n }
integer_of (negsuc n) = record { kind = i128; value = negsuc n }

abbrev text_of : List ℕ → MarkedText
text_of t = record { spelled = t; safe = false }

abbrev key_of : KeyMeaning → KeyForm
key_of (truth_key b) = truth_key b
key_of (number_key z) = number_key (integer_of z)
key_of (text_key t) = text_key (owned t)

-- it is laid out just so
value_of : (z : ℤ) → (integer_of z).value ≡ z
value_of x0 = search rules

key_means : (k : KeyMeaning) → key_meaning (key_of k) ≡ k
key_means x0 = search rules

mutual
  lays_out : (x : Layout) → layout (relabeled integer_of text_of key_of x) ≡ x
  lays_out (number z) = ap number (value_of z)
  lays_out (array xs) = ap array (items_lay_out xs)
  lays_out (object ps) = ap object (members_lay_out ps)
  lays_out v = refl

  items_lay_out : (xs : Items ℤ (List ℕ) KeyMeaning) → layout_items (relabeled_items integer_of text_of key_of xs) ≡ xs
  items_lay_out no_items = refl
  items_lay_out (item x xs) = λ i. item (lays_out x i) (items_lay_out xs i)

  members_lay_out : (ps : Members ℤ (List ℕ) KeyMeaning) → layout_members (relabeled_members integer_of text_of key_of ps) ≡ ps
  members_lay_out no_members = refl
  members_lay_out (member k x ps) = λ i. member (key_means k i) (lays_out x i) (members_lay_out ps i)

-- and is well made where the layout is
integer_made : (z : ℤ) → IsWide z → IsOfKind (integer_of z).kind (integer_of z).value
integer_made x0 h = search rules

key_made : (k : KeyMeaning) → IsWellMadeKeyMeaning k → IsWellMadeKey (key_of k)
key_made x0 h = search rules

made_above : (k : KeyMeaning) (ps : Members ℤ (List ℕ) KeyMeaning)
    → AllByRecursion (λ l. eq_by_cmp key_order k l ≡ false) (keys_of (members_list ps))
    → AllByRecursion (λ l. eq_by_cmp key_form_order (key_of k) l ≡ false) (keys_of (members_list (relabeled_members integer_of text_of key_of ps)))
made_above k no_members h = tt
made_above k (member l x ps) h = ((λ i. eq_by_cmp key_order (key_means k i) (key_means l i)) ∙ h.0, made_above k ps h.1)

made_apart : (ps : Members ℤ (List ℕ) KeyMeaning) → HasDistinctKeys key_order (members_list ps)
    → HasDistinctKeys key_form_order (members_list (relabeled_members integer_of text_of key_of ps))
unfolding IsDistinct
made_apart no_members h = tt
made_apart (member k x ps) h = (made_above k ps h.0, made_apart ps h.1)

mutual
  made : (x : Layout) → IsWellMadeLayout x → IsWellMade (relabeled integer_of text_of key_of x)
  made (number z) h = integer_made z h
  made (text t) h = h
  made (bytes bs) h = h
  made (array xs) h = items_made xs h
  made (object ps) h = (made_apart ps h.0, members_made ps h.1)
  made v h = tt

  items_made : (xs : Items ℤ (List ℕ) KeyMeaning) → AreMadeOf (HasDistinctKeys key_order) xs
      → AreWellMade (relabeled_items integer_of text_of key_of xs)
  items_made no_items h = tt
  items_made (item x xs) h = (made x h.0, items_made xs h.1)

  members_made : (ps : Members ℤ (List ℕ) KeyMeaning) → ArePairsOf (HasDistinctKeys key_order) ps
      → AreWellMadeMembers (relabeled_members integer_of text_of key_of ps)
  members_made no_members h = tt
  members_made (member k x ps) h = (key_made k h.0, made x h.1, members_made ps h.2)

pub laid_out : (x : Layout) → IsWellMadeLayout x → (value : Form) × IsWellMade value × (layout value ≡ x)
laid_out x h = (relabeled integer_of text_of key_of x, made x h, lays_out x)

pub meant : (x : Meaning) → IsWellMadeMeaning x → (value : Form) × IsWellMade value × (meaning value ≡ x)
meant x h = search (rules, laid_out, meaning_is_layout, sorted_itself)
