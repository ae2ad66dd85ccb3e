-- The state of a map whose keys are all texts.
use Rattle.std.proofs.Common.{◌≡◌, ℕ, false, cond, List, [], ◌∷◌, ◌++◌, Some, None, IsSome, refl, ap, sym, ◌∙◌, subst, append_assoc, arith, append-nil}
use Rattle.std.proofs.lemmas.Option.{same_Some}
use Rattle.std.specs.Cmp.{eq_by_cmp_equiv}
use Rattle.std.specs.Cmp.Lexicographic.{slice_cmp, nat_list_cmp_total}
use Rattle.std.specs.FinMap.{get, insert, get-insert}
use Rattle.std.specs.List.{AllByRecursion, IsDistinct}
use Rattle.std.specs.Map.{keys_of}
use Rattle.std.specs.Ordering.{nat_cmp, eq_by_cmp}
use Rattle.tera_meaning.specs.Form.{Form}
use Rattle.tera_meaning.proofs.PutLaws.{found_put, put_last}
use Rattle.tera_meaning.specs.KeyMeaning.{KeyForm, text_key, owned}
use Rattle.tera_meaning.specs.Pairs.{HasDistinctKeys, key_form_order, value_at}
use Rattle.tera_meaning.specs.Read.{members_in}
use Rattle.tera_meaning.specs.State.{State}
use Rattle.tera_meaning.proofs.StateLaws.{same_state}
use Rattle.tera_meaning.proofs.TreeLaws.{list_of_members}
use Rattle.tera_script.specs.Line.{AreNamed}
use Rattle.tera_script.specs.inner.Command.{IsSourceOf}
use Rattle.tera_meaning.proofs.KeyLaws.{form_total}
use Rattle.tera_values.proofs.PartsLaws.{map_of_members}
use Rattle.tera_values.specs.Key.{text_in_key}

-- ---- one state

pub one_state : (pairs : List (KeyForm × Form)) (f g : State) → AreNamed pairs f → AreNamed pairs g → f ≡ g
one_state pairs f g h k = same_state f g (λ name. h.1 name ∙ sym (k.1 name))

-- ---- texts as keys

abbrev pub IsTextPair : KeyForm × Form → Type 0
IsTextPair pair = IsSome (text_in_key pair.0)

texts_on : (done : List (KeyForm × Form)) (k : KeyForm) (v : Form) (t : List ℕ) → text_in_key k ≡ Some t
    → AllByRecursion IsTextPair done → AllByRecursion IsTextPair (done ++ (k, v) ∷ [])
texts_on [] k v t is h = (grind arith, tt)
texts_on (d ∷ done) k v t is h = (h.0, texts_on done k v t is h.1)

text_in_middle : (ys rest : List (KeyForm × Form)) (e : KeyForm × Form) → AllByRecursion IsTextPair (ys ++ e ∷ rest) → IsTextPair e
text_in_middle [] rest e h = h.0
text_in_middle (y ∷ ys) rest e h = text_in_middle ys rest e h.1

-- whether a name is the text of a key
pub name_ties : (k : KeyForm) (t name : List ℕ) → text_in_key k ≡ Some t
    → eq_by_cmp (slice_cmp nat_cmp) name t ≡ eq_by_cmp key_form_order (text_key (owned name)) k
name_ties k t name e = grind arith

-- ---- the pairs one by one

-- no key ties with one that stands later
apart_later : (l k : KeyForm) (v : Form) (ys rest : List (KeyForm × Form))
    → AllByRecursion (λ z. eq_by_cmp key_form_order l z ≡ false) (keys_of (ys ++ (k, v) ∷ rest)) → eq_by_cmp key_form_order l k ≡ false
apart_later l k v [] rest h = h.0
apart_later l k v (y ∷ ys) rest h = apart_later l k v ys rest h.1

none_before : (ys rest : List (KeyForm × Form)) (k : KeyForm) (v : Form) → HasDistinctKeys key_form_order (ys ++ (k, v) ∷ rest)
    → value_at key_form_order ys k ≡ None
unfolding IsDistinct
none_before [] rest k v h = refl
none_before (y ∷ ys) rest k v h =
    grind (arith, (eq_by_cmp_equiv form_total).symm k y.0, apart_later y.0 k v ys rest h.0, none_before ys rest k v h.1)

-- what the pairs have with one more behind them
value_on : (done rest : List (KeyForm × Form)) (k : KeyForm) (v : Form) (q : KeyForm) → HasDistinctKeys key_form_order (done ++ (k, v) ∷ rest)
    → value_at key_form_order (done ++ (k, v) ∷ []) q ≡ cond (eq_by_cmp key_form_order q k) (Some v) (value_at key_form_order done q)
value_on done rest k v q apart =
    ap (λ ps. value_at key_form_order ps q) (sym (put_last key_form_order done k v (none_before done rest k v apart)))
    ∙ found_put key_form_order form_total done k v q

-- the names so far hold what the pairs so far have under them
abbrev pub HoldsSoFar : State → List (KeyForm × Form) → Type 0
HoldsSoFar state done = (name : List ℕ) → get state name ≡ value_at key_form_order done (text_key (owned name))

-- ---- the whole map

-- the keys so far are texts, and what they have is held under them; with those that are left they are the map's
pub record IsSoFar (value : Form) (state : State) (left : List (KeyForm × Form)) : Type 0 where
  pub done : List (KeyForm × Form)
  pub texts : AllByRecursion IsTextPair done
  pub so_far : HoldsSoFar state done
  pub whole : members_in value ≡ Some (done ++ left)
  pub apart : HasDistinctKeys key_form_order (done ++ left)

module _ {value : Form} {state : State} {left : List (KeyForm × Form)} (h : IsSoFar value state left) where
  pub all_named : left ≡ [] → IsSourceOf value (Some state)
  all_named e =
      let all = ap (λ rest. h.done ++ rest) e ∙ append-nil h.done in
      (h.done, sym (map_of_members value h.done (h.whole ∙ ap Some all)), (h.texts, h.so_far))

  module _ {rest : List (KeyForm × Form)} {k : KeyForm} {v : Form} (was : left ≡ (k, v) ∷ rest) where
    abbrev here : List (KeyForm × Form) → List (KeyForm × Form)
    here ps = h.done ++ ps

    pub none_named : text_in_key k ≡ None → IsSourceOf value None
    none_named none = λ pairs state map named.
        let same : pairs ≡ here ((k, v) ∷ rest)
        = same_Some _ _ (sym (ap members_in map ∙ ap Some (list_of_members pairs)) ∙ h.whole ∙ ap (λ ps. Some (here ps)) was) in
        let text = text_in_middle h.done rest (k, v) (subst (AllByRecursion IsTextPair) same named.0) in
        grind (arith, text)

    pub one_more : {t : List ℕ} {after : State} → text_in_key k ≡ Some t → after ≡ insert state t v → IsSoFar value after rest
    one_more {t} {after} is e =
        let apart : HasDistinctKeys key_form_order (here ((k, v) ∷ rest)) = subst (λ ps. HasDistinctKeys key_form_order (here ps)) was h.apart in
        let moved = sym (append_assoc h.done ((k, v) ∷ []) rest) in
        record {
          done = h.done ++ (k, v) ∷ [];
          texts = texts_on h.done k v t is h.texts;
          so_far = λ name. ap (λ s. get s name) e ∙ get-insert nat_list_cmp_total state t v name
              ∙ (λ i. cond (name_ties k t name is i) (Some v) (h.so_far name i)) ∙ sym (value_on h.done rest k v (text_key (owned name)) apart);
          whole = h.whole ∙ ap (λ ps. Some (here ps)) was ∙ ap Some moved;
          apart = subst (HasDistinctKeys key_form_order) moved apart;
        }
