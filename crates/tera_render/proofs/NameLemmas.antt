-- Names that are kept one after another, each with what the pairs have at it.
use Rattle.std.proofs.Common.{◌≡◌, ◌∙◌, Bool, true, false, List, [], ◌∷◌, ℕ, ap, sym, refl, subst, cond, IsTrue, rules}
use Rattle.std.proofs.Common.{Option, Some, None}
use Rattle.std.proofs.lemmas.Map.Keys.{IsDistinct-head, IsDistinct-tail}
use Rattle.std.specs.Cmp.Lexicographic.{nat_list_cmp_total, slice_cmp}
use Rattle.std.specs.FinMap.{empty, get, get-empty, get-insert}
use Rattle.std.specs.List.{AllByRecursion}
use Rattle.std.specs.Map.{keys_of}
use Rattle.std.specs.Option.{option_or}
use Rattle.std.specs.Ordering.{eq_by_cmp, nat_cmp}
use Rattle.tera.specs.Form.{Form}
use Rattle.tera.specs.Key.{text_in_key}
use Rattle.tera.specs.KeyMeaning.{KeyForm, key_text, number_key, owned, text_key, truth_key}
use Rattle.tera.specs.Pairs.{HasDistinctKeys, key_form_order, value_at}
use Rattle.tera.specs.State.{State}
use Rattle.tera_render.specs.Names.{keep}

-- what the pairs have at a name
abbrev pub at_name : List (KeyForm × Form) → List ℕ → Option Form
at_name ps name = value_at key_form_order ps (text_key (owned name))

-- with the pairs that are left, the names so far mean what all pairs have
abbrev pub NameRest : List (KeyForm × Form) → List (KeyForm × Form) → State → Type 0
NameRest all left names =
    HasDistinctKeys key_form_order left × ((name : List ℕ) → option_or (at_name left name) (get names name) ≡ at_name all name)

-- keys that tie find the same
abbrev pub FindAlike : Type 0
FindAlike =
    (ps : List (KeyForm × Form)) (k l : KeyForm) → IsTrue (eq_by_cmp key_form_order k l)
    → value_at key_form_order ps k ≡ value_at key_form_order ps l

apart : (es : List (KeyForm × Form)) (k : KeyForm) → AllByRecursion (λ y. eq_by_cmp key_form_order k y ≡ false) (keys_of es)
    → value_at key_form_order es k ≡ None
apart [] k all = refl
apart (e ∷ es) k all = ap (λ b. cond b (Some e.1) (value_at key_form_order es k)) all.0 ∙ apart es k all.1

put_or : (b : Bool) (v : Form) (rest before : Option Form) → (IsTrue b → rest ≡ None)
    → option_or rest (cond b (Some v) before) ≡ option_or (cond b (Some v) rest) before
put_or true v rest before none = ap (λ o. option_or o (Some v)) (none refl)
put_or false v rest before none = refl

step : FindAlike → (k : KeyForm) (v : Form) (rest : List (KeyForm × Form)) (names : State) → HasDistinctKeys key_form_order ((k, v) ∷ rest)
    → (name : List ℕ)
    → option_or (at_name rest name) (get (keep names (text_in_key k) v) name) ≡ option_or (at_name ((k, v) ∷ rest) name) (get names name)
step alike (truth_key b) v rest names distinct name = refl
step alike (number_key n) v rest names distinct name = refl
step alike (text_key t) v rest names distinct name =
    ap (option_or (at_name rest name)) (get-insert nat_list_cmp_total names (key_text t) v name)
    ∙ put_or (eq_by_cmp (slice_cmp nat_cmp) name (key_text t)) v (at_name rest name) (get names name)
    (λ tie. alike rest (text_key (owned name)) (text_key t) tie
    ∙ apart rest (text_key t) (IsDistinct-head (eq_by_cmp key_form_order) (text_key t) (keys_of rest) distinct))

-- before the first pair there are no names
pub named_none : (all left : List (KeyForm × Form)) (names : State) → HasDistinctKeys key_form_order all → left ≡ all → names ≡ empty
    → NameRest all left names
named_none all left names distinct same none =
    let stays : (name : List ℕ) → option_or (at_name left name) None ≡ at_name left name = search rules in (
      subst (λ ps. HasDistinctKeys key_form_order ps) (sym same) distinct,
      λ name. ap (λ s. option_or (at_name left name) (get s name)) none
          ∙ ap (option_or (at_name left name)) (get-empty (slice_cmp nat_cmp) name) ∙ stays name ∙ ap (λ ps. at_name ps name) same,
    )

-- one pair more
pub named_on : FindAlike → (all left rest : List (KeyForm × Form)) (names after : State) (k : KeyForm) (v : Form) → left ≡ (k, v) ∷ rest
    → after ≡ keep names (text_in_key k) v → NameRest all left names → NameRest all rest after
named_on alike all left rest names after k v was is so =
    let now : NameRest all ((k, v) ∷ rest) names = subst (λ ps. NameRest all ps names) was so in (
      IsDistinct-tail (eq_by_cmp key_form_order) k (keys_of rest) now.0,
      λ name. ap (λ s. option_or (at_name rest name) (get s name)) is ∙ step alike k v rest names now.0 name ∙ now.1 name,
    )

-- no pair more
pub named_all : (all left : List (KeyForm × Form)) (names : State) → left ≡ [] → NameRest all left names
    → (name : List ℕ) → get names name ≡ at_name all name
named_all all left names none so name = ap (λ ps. option_or (at_name ps name) (get names name)) (sym none) ∙ so.1 name
