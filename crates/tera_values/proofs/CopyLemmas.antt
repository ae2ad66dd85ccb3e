-- Copies of the keys of a map, one after another, and of what holds nothing.
use Rattle.std.specs.Prelude.{◌≡◌, ◌<◌, ◌+◌, ℕ, Bool, false, ◌||◌, List, [], ◌∷◌, ◌++◌, length, map, refl}
use Rattle.std.proofs.Common.{sym, ◌∙◌, ap, subst, get_or, take, drop, append_assoc}
use Rattle.std.proofs.lemmas.List.{map_push, map_more, take_more, take-append-drop}
use Rattle.std.specs.List.{IsDistinct, list_any, zip}
use Rattle.std.specs.Ordering.{eq_by_cmp}
use Rattle.tera_meaning.specs.Pairs.{key_form_order}
use Rattle.tera_meaning.proofs.MeaningLaws.{truthy_meant}
use Rattle.tera_meaning.specs.Form.{Form}
use Rattle.tera_meaning.specs.KeyMeaning.{KeyForm}
use Rattle.tera_meaning.specs.Meaning.{meaning}
use Rattle.tera_meaning.specs.Read.{is_nonempty, truthy_in}
use Rattle.tera_meaning.specs.Tree.{bytes, array, items, object, members}
use Rattle.tera_values.specs.Key.{key_form}
use Rattle.tera_values.specs.View.{marked}
use Rattle.tera_values.specs.inner.Map.{keys_tie, pairs_held}
use Rattle.tera_values.specs.declared.key.Key.{Key}
use Rattle.tera_values.proofs.KeyLemmas.{none_in_front}

any_form : (k : Key) (ks : List Key) → list_any (keys_tie k) ks ≡ list_any (eq_by_cmp key_form_order (key_form k)) (map key_form ks)
any_form k [] = refl
any_form k (x ∷ ks) = ap (λ b. keys_tie k x || b) (any_form k ks)

-- the keys around a place
parted : (ks : List Key) (i : ℕ) (k : Key) → i < length ks → k ≡ get_or ks i k → take i ks ++ k ∷ drop (i + 1) ks ≡ ks
parted ks i k below is =
    sym (append_assoc (take i ks) (k ∷ []) (drop (i + 1) ks))
    ∙ (λ j. (take i ks ++ is j ∷ []) ++ drop (i + 1) ks)
    ∙ (λ j. sym (take_more ks i k below) j ++ drop (i + 1) ks)
    ∙ take-append-drop (i + 1) ks

-- a copy of the next key is none of the copies so far
pub new_copy : (ks made : List Key) (i : ℕ) (k copy : Key) → i < length ks → k ≡ get_or ks i k → key_form copy ≡ key_form k
    → map key_form made ≡ map key_form (take i ks) → IsDistinct keys_tie ks → list_any (keys_tie copy) made ≡ false
new_copy ks made i k copy below is like so_far h =
    any_form copy made
    ∙ (λ j. list_any (eq_by_cmp key_form_order (like j)) (so_far j))
    ∙ sym (any_form k (take i ks))
    ∙ none_in_front (take i ks) k (drop (i + 1) ks) (subst (IsDistinct keys_tie) (sym (parted ks i k below is)) h)

pub one_more_copy : (ks made : List Key) (i : ℕ) (k copy : Key) → i < length ks → k ≡ get_or ks i k → key_form copy ≡ key_form k
    → map key_form made ≡ map key_form (take i ks) → map key_form (made ++ copy ∷ []) ≡ map key_form (take (i + 1) ks)
one_more_copy ks made i k copy below is like so_far =
    map_push key_form made copy
    ∙ (λ j. so_far j ++ (like ∙ ap key_form is) j ∷ [])
    ∙ sym (map_more key_form ks i k below)

-- keys of the same forms with the same values are the same pairs
module _ {V : Type 0} where
  pub same_pairs : (ks made : List Key) (vs : List V) → map key_form made ≡ map key_form ks → pairs_held made vs ≡ pairs_held ks vs
  same_pairs ks made vs e = ap (λ forms. zip forms vs) e

-- what is not truthy and has parts has none

none_in : {X : Type 0} (xs : List X) → is_nonempty xs ≡ false → xs ≡ []
none_in [] e = refl
none_in (x ∷ xs) e = cc

pub no_text : (v : Form) (t : List ℕ) (safe : Bool) → marked t safe ≡ v → truthy_in (meaning v) ≡ false → t ≡ []
no_text v t safe held e = none_in t (ap (λ u. truthy_in (meaning u)) held ∙ e)

pub no_bytes : (v : Form) (bs : List ℕ) → bytes bs ≡ v → truthy_in (meaning v) ≡ false → bs ≡ []
no_bytes v bs held e = none_in bs (ap (λ u. truthy_in (meaning u)) held ∙ e)

none_meant : (xs : List Form) → truthy_in (meaning (array (items xs))) ≡ false → xs ≡ []
none_meant [] e = refl
none_meant (x ∷ xs) e = cc

pub no_items_held : (v : Form) (xs : List Form) → array (items xs) ≡ v → truthy_in (meaning v) ≡ false → xs ≡ []
no_items_held v xs held e = none_meant xs (ap (λ u. truthy_in (meaning u)) held ∙ e)

pub no_pairs_held : (v : Form) (ps : List (KeyForm × Form)) → object (members ps) ≡ v → truthy_in (meaning v) ≡ false → ps ≡ []
no_pairs_held v ps held e = none_in ps (sym (truthy_meant ps) ∙ ap (λ u. truthy_in (meaning u)) held ∙ e)
