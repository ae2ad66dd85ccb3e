-- How far items and pairs are written.
use Rattle.std.specs.Prelude.{◌≡◌, ◌<◌, ◌==◌, cond, true, false, length, get_or, drop, Option, Some, None, is_some, option_copied, ℕ, ◌+◌, List}
use Rattle.std.specs.Prelude.{[], ◌∷◌, ◌++◌}
use Rattle.std.proofs.Common.{sym, ap, ◌∙◌, subst}
use Rattle.std.specs.Borrow.{Bor}
use Rattle.std.proofs.lemmas.List.{drop_more}
use Rattle.json.specs.Token.{Token, begin_array, begin_object}
use Rattle.json.specs.Tree.{items_tokens, members_tokens}
use Rattle.tera_json.specs.Misfits.{Misfit, here, under, too_deep, same_key}
use Rattle.tera_json.specs.Places.{item_step, name_step}
use Rattle.tera_json.specs.Written.{documents_of, members_of, name_of, value_misfits, values_misfits, pairs_misfits, key_misfits, has_text}
use Rattle.tera_json.specs.inner.Stopped.{IsDue}
use Rattle.tera_json.specs.declared.misfit.Stop.{Stop}
use Rattle.tera_json.specs.declared.write.Lacking.{Lacking}
use Rattle.tera_json.proofs.Stops.{due_of_more}
use Rattle.tera_meaning.specs.Form.{Form, MarkedText}
use Rattle.tera_meaning.specs.Integer.{Integer}
use Rattle.tera_meaning.specs.KeyMeaning.{KeyForm, truth_key, number_key, text_key, borrowed}
use Rattle.tera_meaning.specs.Pairs.{key_form_order, value_at}
use Rattle.tera_values.specs.Key.{text_in_key}
use Rattle.tera_meaning.specs.Tree.{Items, Members, item, items}

-- all items but those that are left were written behind these tokens
pub record AreWrittenBut (lacking : Lacking) (levels n : ℕ) (all left : Items Integer MarkedText KeyForm) (old now : List Token) : Type 0 where
  pub tokens : now ++ items_tokens (documents_of left) ≡ old ++ begin_array ∷ items_tokens (documents_of all)
  pub fit : values_misfits lacking levels 0 all ≡ values_misfits lacking levels n left

pub item_unwritten : {lacking : Lacking} {levels n : ℕ} {all left rest : Items Integer MarkedText KeyForm} {x : Form} {old now : List Token} (s : Stop)
    → AreWrittenBut lacking levels n all left old now → left ≡ item x rest → IsDue (under (item_step n) (value_misfits lacking levels x)) s
    → IsDue (values_misfits lacking levels 0 all) s
item_unwritten {lacking} {levels} {n} s h is due =
    subst (λ ms. IsDue ms s) (sym (h.fit ∙ ap (values_misfits lacking levels n) is)) (due_of_more _ _ s due)

-- all pairs but those that are left were written behind these tokens
pub record ArePairsBut (lacking : Lacking) (levels : ℕ) (pairs : List (KeyForm × Form)) (all left : Members Integer MarkedText KeyForm)
    (old now : List Token) : Type 0 where
  pub tokens : now ++ members_tokens (members_of left) ≡ old ++ begin_object ∷ members_tokens (members_of all)
  pub fit : pairs_misfits lacking levels pairs all ≡ pairs_misfits lacking levels pairs left

-- ---- the rows of a loop

pub left_value : (xs : List Form) (i : ℕ) (x : Form) → i < length xs → x ≡ get_or xs i x → items (drop i xs) ≡ item x (items (drop (i + 1) xs))
left_value xs i x less is = ap items (drop_more xs i x less ∙ ap (λ y. y ∷ drop (i + 1) xs) (sym is))

-- ---- keys

pub key_clash : (pairs : List (KeyForm × Form)) (k : KeyForm) → text_in_key k ≡ None → has_text pairs (name_of k) ≡ true
    → key_misfits pairs k ≡ under (name_step (name_of k)) (here same_key ∷ [])
key_clash pairs (truth_key b) e has = ap (λ c. cond c (under (name_step (name_of (truth_key b))) (here same_key ∷ [])) []) has
key_clash pairs (number_key n) e has = ap (λ c. cond c (under (name_step (name_of (number_key n))) (here same_key ∷ [])) []) has
key_clash pairs (text_key t) e has = cc

pub no_key_clash : (pairs : List (KeyForm × Form)) (k : KeyForm) → text_in_key k ≡ None → has_text pairs (name_of k) ≡ false → key_misfits pairs k ≡ []
no_key_clash pairs (truth_key b) e has = ap (λ c. cond c (under (name_step (name_of (truth_key b))) (here same_key ∷ [])) []) has
no_key_clash pairs (number_key n) e has = ap (λ c. cond c (under (name_step (name_of (number_key n))) (here same_key ∷ [])) []) has
no_key_clash pairs (text_key t) e has = cc

-- a look-up of the text that a key is written as tells whether it is a key too
pub text_found : (pairs : List (KeyForm × Form)) (name wanted : List ℕ) (found : Option (Bor Form)) → wanted ≡ name
    → option_copied found ≡ value_at key_form_order pairs (text_key (borrowed wanted)) → has_text pairs name ≡ is_some found
text_found pairs name wanted None is e = ap (λ t. is_some (value_at key_form_order pairs (text_key (borrowed t)))) (sym is) ∙ ap is_some (sym e)
text_found pairs name wanted (Some x) is e = ap (λ t. is_some (value_at key_form_order pairs (text_key (borrowed t)))) (sym is) ∙ ap is_some (sym e)

-- ---- levels

pub some_level : (P : List Misfit → Type 0) (levels : ℕ) (inside : List Misfit) → (levels == 0) ≡ false → P inside
    → P (cond (levels == 0) (here too_deep ∷ []) inside)
some_level P levels inside some h = subst (λ b. P (cond b (here too_deep ∷ []) inside)) (sym some) h
