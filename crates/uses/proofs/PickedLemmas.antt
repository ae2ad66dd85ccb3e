-- What is found in pairs that were picked by their names.
use Rattle.std.specs.Prelude.{◌≡◌, ◌||◌, ℕ, Bool, true, false, cond, if◌then◌else◌, List, [], ◌∷◌, Option, Some, None, refl}
use Rattle.std.specs.List.{list_any, cons_option}
use Rattle.std.specs.Option.{option_map, option_or}
use Rattle.std.specs.Ordering.{eq_by_cmp}
use Rattle.std.proofs.Common.{ap, sym, ◌∙◌, rules}
use Rattle.tera.proofs.KeyLaws.{form_total}
use Rattle.tera.proofs.ManyPutLaws.{found_alike}
use Rattle.tera.proofs.PutLaws.{found_put}
use Rattle.tera.specs.Form.{Form}
use Rattle.tera.specs.KeyMeaning.{KeyForm, text_key, owned, borrowed}
use Rattle.tera.specs.Pairs.{key_form_order, put, put_all, value_at}
use Rattle.uses.specs.Picks.{named, value_if_named}

absent : (b r : Bool) (o p : Option Form) → (b ≡ true → o ≡ None) → (if r then option_or o p else p) ≡ (if b || r then option_or o p else p)
absent true true o p none = refl
absent true false o p none = ap (λ found. option_or found p) (sym (none refl))
absent false r o p none = refl

present : (b r : Bool) (v : Form) (o p : Option Form) → (b ≡ true → o ≡ Some v)
    → (if r then option_or o (cond b (Some v) p) else cond b (Some v) p) ≡ (if b || r then option_or o p else p)
present true true v o p some = ap (λ found. option_or found (Some v)) (some refl) ∙ ap (λ found. option_or found p) (sym (some refl))
present true false v o p some = ap (λ found. option_or found p) (sym (some refl))
present false r v o p some = refl

or_nothing : (o : Option Form) → option_or o None ≡ o
or_nothing x0 = search rules

module _ (pairs : List (KeyForm × Form)) where
  named_first : List (KeyForm × Form) → List ℕ → List (List ℕ) → KeyForm → Option Form → Type 0
  named_first ps name names q at_name =
      value_at key_form_order (put_all key_form_order ps (cons_option (option_map (λ v. (text_key (owned name), v)) at_name) (named pairs names))) q
      ≡ (if eq_by_cmp key_form_order q (text_key (borrowed name)) || list_any (λ n. eq_by_cmp key_form_order q (text_key (borrowed n))) names
      then option_or (value_at key_form_order pairs q) (value_at key_form_order ps q) else value_at key_form_order ps q)

  found_named : (ps : List (KeyForm × Form)) (names : List (List ℕ)) (q : KeyForm)
      → value_at key_form_order (put_all key_form_order ps (named pairs names)) q
      ≡ (if list_any (λ n. eq_by_cmp key_form_order q (text_key (borrowed n))) names
      then option_or (value_at key_form_order pairs q) (value_at key_form_order ps q) else value_at key_form_order ps q)
  unfolding named_first
  found_named ps [] q = refl
  found_named ps (name ∷ names) q =
      let any = list_any (λ n. eq_by_cmp key_form_order q (text_key (borrowed n))) names in
      let ties = eq_by_cmp key_form_order q (text_key (borrowed name)) in
      elim (value_at key_form_order pairs (text_key (borrowed name))) as
      (λ o. value_at key_form_order pairs (text_key (borrowed name)) ≡ o → named_first ps name names q o) [
        | None ↦ λ none. found_named ps names q
            ∙ absent ties any (value_at key_form_order pairs q) (value_at key_form_order ps q)
            (λ tie. found_alike key_form_order form_total pairs q (text_key (borrowed name)) tie ∙ none)
        | Some v ↦ λ some. found_named (put key_form_order ps (text_key (owned name)) v) names q
            ∙ ap (λ p. if any then option_or (value_at key_form_order pairs q) p else p) (found_put key_form_order form_total ps (text_key (owned name)) v q)
            ∙ present ties any v (value_at key_form_order pairs q) (value_at key_form_order ps q)
            (λ tie. found_alike key_form_order form_total pairs q (text_key (borrowed name)) tie ∙ some)
      ] refl

  pub found_picked : (names : List (List ℕ)) (q : KeyForm)
      → value_at key_form_order (put_all key_form_order [] (named pairs names)) q ≡ value_if_named pairs names q
  found_picked names q =
      found_named [] names q
      ∙ ap (λ o. if list_any (λ n. eq_by_cmp key_form_order q (text_key (borrowed n))) names then o else None) (or_nothing (value_at key_form_order pairs q))
