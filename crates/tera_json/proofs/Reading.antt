-- How far items and members are read.
use Rattle.std.specs.Prelude.{◌≡◌, ◌<◌, ◌≤◌, ◌-◌, ◌==◌, cond, false, length, get_or, drop, ℕ, suc, Option, Some, None, option_map, ◌+◌, List, []}
use Rattle.std.specs.Prelude.{◌∷◌, ◌++◌, refl}
use Rattle.std.proofs.Common.{sym, ap, ◌∙◌, subst, append-nil, rules}
use Rattle.std.proofs.lemmas.List.{append_assoc, drop_more, drop_all}
use Rattle.std.specs.Borrow.{Bor}
use Rattle.std.proofs.Math.Numerals.{suc-eq-add-one}
use Rattle.std.proofs.lemmas.Grind.{fold-append}
use Rattle.json.specs.Json.{number as document_number}
use Rattle.json.specs.Json.{Json, object, Items, no_items, item, Members, no_members, member}
use Rattle.json.specs.Value.{value_view, items_view, members_view}
use Rattle.json.specs.declared.value.Value.{Value, Number, the_lemmas}
use Rattle.tera_json.specs.Documents.{Documents, DocumentItems, DocumentMembers}
use Rattle.tera_json.specs.Misfits.{here, no_integer, too_deep, number_misfits, under, misfits, item_misfits, member_misfits}
use Rattle.tera_json.specs.Places.{item_step, name_step}
use Rattle.tera_json.specs.inner.Stopped.{IsDue}
use Rattle.tera_json.specs.declared.misfit.Stop.{Stop}
use Rattle.tera_json.proofs.Stops.{due_of_more}
use Rattle.tera_meaning.specs.Form.{Form}
use Rattle.tera_meaning.specs.KeyMeaning.{KeyForm, text_key, owned}
use Rattle.tera_meaning.specs.Integer.{Integer}
use Rattle.tera_meaning.specs.Tree.{number}
use Rattle.tera_meaning.specs.Pairs.{key_form_order, put, put_all}

-- the values of the items before those that are left, the first of which has this number
pub record AreReadBut (levels n : ℕ) (all left : Items) (made : List Form) : Type 0 where
  pub documents : (xs : List Form) → DocumentItems left xs → DocumentItems all (made ++ xs)
  pub fit : item_misfits levels 0 all ≡ item_misfits levels n left

pub next_item : {levels n : ℕ} {all left rest : Items} {made after : List Form} {j : Json} (x : Form) → AreReadBut levels n all left made
    → left ≡ item j rest → Documents j x → misfits levels j ≡ [] → after ≡ made ++ x ∷ [] → AreReadBut levels (n + 1) all rest after
next_item {levels} {n} {all} {left} {rest} {made} {after} {j} x h is d none more_made = record {
  documents = λ xs more. subst (λ ys. DocumentItems all ys) (sym (ap (λ ys. ys ++ xs) more_made ∙ append_assoc made (x ∷ []) xs))
      (h.documents (x ∷ xs) (subst (λ js. DocumentItems js (x ∷ xs)) (sym is) (x, xs, d, more, refl)));
  fit = h.fit ∙ ap (item_misfits levels n) is ∙ ap (λ ms. under (item_step n) ms ++ item_misfits levels (suc n) rest) none
      ∙ ap (λ m. item_misfits levels m rest) (suc-eq-add-one n);
}

pub all_items : {levels n : ℕ} {all left : Items} {made : List Form} → AreReadBut levels n all left made → left ≡ no_items → DocumentItems all made
all_items {all = all} {made = made} h is = subst (DocumentItems all) (append-nil made) (h.documents [] (subst (λ js. DocumentItems js []) (sym is) refl))

pub stopped_item : {levels n : ℕ} {all left rest : Items} {made : List Form} {j : Json} (s : Stop) → AreReadBut levels n all left made → left ≡ item j rest
    → IsDue (under (item_step n) (misfits levels j)) s → IsDue (item_misfits levels 0 all) s
stopped_item {levels} {n} s h is due =
    subst (λ ms. IsDue ms s) (sym (h.fit ∙ ap (item_misfits levels n) is)) (due_of_more _ _ s due)

-- the map of the members before those that are left
pub record IsMapBut (levels : ℕ) (all left : Members) (made : List (KeyForm × Form)) : Type 0 where
  pub written : List (KeyForm × Form)
  pub placed : made ≡ put_all key_form_order [] written
  pub documents : (more : List (KeyForm × Form)) → DocumentMembers left more → DocumentMembers all (written ++ more)
  pub fit : member_misfits levels all ≡ member_misfits levels left

pub next_member : {levels : ℕ} {all left rest : Members} {made after : List (KeyForm × Form)} {name : List ℕ} {j : Json} (x : Form)
    → IsMapBut levels all left made → left ≡ member name j rest → Documents j x → misfits levels j ≡ []
    → after ≡ put key_form_order made (text_key (owned name)) x → IsMapBut levels all rest after
next_member {levels} {all} {left} {rest} {made} {after} {name} {j} x h is d none placed =
    let e : KeyForm × Form = (text_key (owned name), x) in
    record {
      written = h.written ++ e ∷ [];
      placed = placed ∙ ap (λ ps. put key_form_order ps (text_key (owned name)) x) h.placed ∙ sym (fold-append _ [] h.written (e ∷ []));
      documents = λ more rest_read. subst (λ ys. DocumentMembers all ys) (sym (append_assoc h.written (e ∷ []) more))
          (h.documents (e ∷ more) (subst (λ ms. DocumentMembers ms (e ∷ more)) (sym is) (x, more, d, rest_read, refl)));
      fit = h.fit ∙ ap (member_misfits levels) is ∙ ap (λ ms. under (name_step name) ms ++ member_misfits levels rest) none;
    }

-- the pairs of a map are the members
abbrev pub IsMapOf : Members → List (KeyForm × Form) → Type 0
IsMapOf all made = (written : List (KeyForm × Form)) × DocumentMembers all written × (made ≡ put_all key_form_order [] written)

pub all_members : {levels : ℕ} {all left : Members} {made : List (KeyForm × Form)} → IsMapBut levels all left made → left ≡ no_members → IsMapOf all made
all_members {all = all} h is =
    (h.written, subst (DocumentMembers all) (append-nil h.written) (h.documents [] (subst (λ ms. DocumentMembers ms []) (sym is) refl)), h.placed)

pub stopped_member : {levels : ℕ} {all left rest : Members} {made : List (KeyForm × Form)} {name : List ℕ} {j : Json} (s : Stop)
    → IsMapBut levels all left made → left ≡ member name j rest → IsDue (under (name_step name) (misfits levels j)) s → IsDue (member_misfits levels all) s
stopped_member {levels} s h is due =
    subst (λ ms. IsDue ms s) (sym (h.fit ∙ ap (member_misfits levels) is)) (due_of_more _ _ s due)

-- what is due where a number is no integer
pub no_integer_due : (text : List ℕ) (o : Option Integer) (s : Stop) → None ≡ option_map {U =
    Form} number o → IsDue (here (no_integer text) ∷ []) s → IsDue (number_misfits text o) s
no_integer_due text None s e due = due
no_integer_due text (Some n) s e due = cc

-- ---- the rows of a loop

pub view_number : (A : Type 0) (s : Bor (List ℕ)) → value_view {A = A} (Number s) ≡ document_number s.now
view_number A s = search (rules, the_lemmas)

module _ {A : Type 0} where
  pub left_item : (vs : List (Value A)) (i : ℕ) (x : Value A) → i < length vs → x ≡ get_or vs i x
      → items_view (drop i vs) ≡ item (value_view x) (items_view (drop (i + 1) vs))
  left_item vs i x less is = ap items_view (drop_more vs i x less ∙ ap (λ y. y ∷ drop (i + 1) vs) (sym is))

  pub no_item_left : (vs : List (Value A)) (i : ℕ) → length vs ≤ i → items_view (drop i vs) ≡ no_items
  no_item_left vs i done = ap items_view (drop_all i vs done)

  pub left_member : (ms : List (Bor (List ℕ) × Value A)) (i : ℕ) (x : Bor (List ℕ) × Value A) → i < length ms → x ≡ get_or ms i x
      → members_view (drop i ms) ≡ member x.0.now (value_view x.1) (members_view (drop (i + 1) ms))
  left_member ms i x less is = ap members_view (drop_more ms i x less ∙ ap (λ y. y ∷ drop (i + 1) ms) (sym is))

  pub no_member_left : (ms : List (Bor (List ℕ) × Value A)) (i : ℕ) → length ms ≤ i → members_view (drop i ms) ≡ no_members
  no_member_left ms i done = ap members_view (drop_all i ms done)

-- what is due of members is due of their object
pub object_due : (levels : ℕ) (ms : Members) (s : Stop) → (levels == 0) ≡ false → IsDue (member_misfits (levels - 1) ms) s
    → IsDue (misfits levels (object ms)) s
object_due levels ms s some h = subst (λ b. IsDue (cond b (here too_deep ∷ []) (member_misfits (levels - 1) ms)) s) (sym some) h
