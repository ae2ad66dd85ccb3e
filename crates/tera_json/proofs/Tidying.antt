-- A document that is read as a value and written again is tidied.
use Rattle.std.specs.Prelude.{◌≡◌, ℕ, suc, ◌-◌, ◌==◌, Bool, true, false, cond, List, [], ◌∷◌, ◌++◌, map, refl, ⊤}
use Rattle.std.proofs.Common.{sym, ap, ◌∙◌}
use Rattle.std.specs.Ordering.{eq_by_cmp}
use Rattle.json.specs.Json.{Json, null, boolean, string, Items, no_items, item, Members, no_members, member}
use Rattle.json.specs.Json as json
use Rattle.json.specs.Tree.{HasNumbers, ItemsHaveNumbers, MembersHaveNumbers}
use Rattle.tera_json.specs.Documents.{Documents, DocumentItems, DocumentMembers}
use Rattle.tera_json.specs.Misfits.{here, under, too_deep, misfits, item_misfits, member_misfits}
use Rattle.tera_json.specs.Places.{item_step, name_step}
use Rattle.tera_json.specs.Tidied.{tidied, tidied_items, tidied_members, members_from, name_order}
use Rattle.tera_json.specs.Written.{document_of, documents_of, members_of, value_misfits, values_misfits, pairs_misfits}
use Rattle.tera_json.specs.declared.write.Lacking.{Lacking}
use Rattle.tera_json.proofs.Canonical.{integer_again}
use Rattle.tera_json.proofs.Stops.{nil_front, nil_under, within_levels}
use Rattle.tera_meaning.specs.Form.{Form}
use Rattle.tera_meaning.specs.KeyMeaning.{KeyForm, text_key, owned}
use Rattle.tera_meaning.specs.Pairs.{key_form_order, put, put_all}
use Rattle.tera_meaning.specs.Tree.{items, members, members_list}

-- a pair of which the key is a text that it owns
abbrev named : List ℕ × Form → KeyForm × Form
named e = (text_key (owned e.0), e.1)

-- a member of the written document
abbrev written : List ℕ × Form → List ℕ × Json
written e = (e.0, document_of e.1)

chosen : {A B : Type 0} (f : A → B) (b : Bool) (x y : A) → cond b (f x) (f y) ≡ f (cond b x y)
chosen f true x y = refl
chosen f false x y = refl

put_named : (ps : List (List ℕ × Form)) (name : List ℕ) (x : Form)
    → put key_form_order (map named ps) (text_key (owned name)) x ≡ map named (put name_order ps name x)
put_named [] name x = refl
put_named (p ∷ ps) name x =
    let b = eq_by_cmp name_order name p.0 in
    ap (λ rest. cond b (named (p.0, x) ∷ map named ps) (named p ∷ rest)) (put_named ps name x)
    ∙ chosen (map named) b ((p.0, x) ∷ ps) (p ∷ put name_order ps name x)

put_written : (ps : List (List ℕ × Form)) (name : List ℕ) (x : Form)
    → put name_order (map written ps) name (document_of x) ≡ map written (put name_order ps name x)
put_written [] name x = refl
put_written (p ∷ ps) name x =
    let b = eq_by_cmp name_order name p.0 in
    ap (λ rest. cond b (written (p.0, x) ∷ map written ps) (written p ∷ rest)) (put_written ps name x)
    ∙ chosen (map written) b ((p.0, x) ∷ ps) (p ∷ put name_order ps name x)

all_named : (ps es : List (List ℕ × Form)) → put_all key_form_order (map named ps) (map named es) ≡ map named (put_all name_order ps es)
all_named ps [] = refl
all_named ps (e ∷ es) = ap (λ qs. put_all key_form_order qs (map named es)) (put_named ps e.0 e.1) ∙ all_named (put name_order ps e.0 e.1) es

all_written : (ps es : List (List ℕ × Form)) → put_all name_order (map written ps) (map written es) ≡ map written (put_all name_order ps es)
all_written ps [] = refl
all_written ps (e ∷ es) = ap (λ qs. put_all name_order qs (map written es)) (put_written ps e.0 e.1) ∙ all_written (put name_order ps e.0 e.1) es

members_named : (es : List (List ℕ × Form)) → members_of (members (map named es)) ≡ members_from (map written es)
members_named [] = refl
members_named (e ∷ es) = ap (json.member e.0 (document_of e.1)) (members_named es)

-- the pairs that some members are, by their names
record AreNamed (ms : Members) (pairs : List (KeyForm × Form)) : Type 0 where
  entries : List (List ℕ × Form)
  are : pairs ≡ map named entries
  tidy : map written entries ≡ tidied_members ms

mutual
  pub read_again : (j : Json) (v : Form) → HasNumbers j → Documents j v → document_of v ≡ tidied j
  read_again null v numbers d = ap document_of d
  read_again (boolean b) v numbers d = ap document_of d
  read_again (json.number s) v numbers d = ap document_of d.2 ∙ ap json.number (integer_again s d.0 numbers d.1)
  read_again (string s) v numbers d = ap document_of d
  read_again (json.array js) v numbers d = ap document_of d.2 ∙ ap json.array (items_again js d.0 numbers d.1)
  read_again (json.object ms) v numbers d =
      let again = members_again ms d.0 numbers d.1 in
      let pairs = ap (put_all key_form_order []) again.are ∙ all_named [] again.entries in
      ap document_of d.2
      ∙ ap json.object
      (ap (λ ps. members_of (members ps)) pairs ∙ members_named (put_all name_order [] again.entries)
      ∙ ap members_from (sym (all_written [] again.entries) ∙ ap (put_all name_order []) again.tidy))

  items_again : (js : Items) (xs : List Form) → ItemsHaveNumbers js → DocumentItems js xs → documents_of (items xs) ≡ tidied_items js
  items_again no_items xs numbers d = ap (λ ys. documents_of (items ys)) d
  items_again (item j js) xs numbers d =
      ap (λ ys. documents_of (items ys)) d.4
      ∙ ap (λ k. json.item k (documents_of (items d.1))) (read_again j d.0 numbers.0 d.2) ∙ ap (json.item (tidied j)) (items_again js d.1 numbers.1 d.3)

  members_again : (ms : Members) (pairs : List (KeyForm × Form)) → MembersHaveNumbers ms → DocumentMembers ms pairs → AreNamed ms pairs
  members_again no_members pairs numbers d = record { entries = []; are = d; tidy = refl }
  members_again (member name j ms) pairs numbers d =
      let rest = members_again ms d.1 numbers.1 d.3 in
      record {
        entries = (name, d.0) ∷ rest.entries;
        are = d.4 ∙ ap (λ ps. named (name, d.0) ∷ ps) rest.are;
        tidy = ap (λ k. (name, k) ∷ map written rest.entries) (read_again j d.0 numbers.0 d.2) ∙ ap (λ ps. (name, tidied j) ∷ ps) rest.tidy;
      }

-- ---- what was read is not refused

either : {A : Type 0} (P : A → Type 0) (b : Bool) (x y : A) → P x → P y → P (cond b x y)
either P true x y h k = h
either P false x y h k = k

module _ (lacking : Lacking) where
  abbrev EachFits : ℕ → List (List ℕ × Form) → Type 0
  EachFits levels [] = ⊤
  EachFits levels (e ∷ es) = (value_misfits lacking levels e.1 ≡ []) × EachFits levels es

  put_fits : (levels : ℕ) (es : List (List ℕ × Form)) (name : List ℕ) (x : Form) → EachFits levels es → value_misfits lacking levels x ≡ []
      → EachFits levels (put name_order es name x)
  put_fits levels [] name x h fits = (fits, tt)
  put_fits levels (e ∷ es) name x h fits =
      either (EachFits levels) (eq_by_cmp name_order name e.0) ((e.0, x) ∷ es) (e ∷ put name_order es name x) (fits, h.1)
      (h.0, put_fits levels es name x h.1 fits)

  put_all_fit : (levels : ℕ) (ps es : List (List ℕ × Form)) → EachFits levels ps → EachFits levels es → EachFits levels (put_all name_order ps es)
  put_all_fit levels ps [] h more = h
  put_all_fit levels ps (e ∷ es) h more = put_all_fit levels (put name_order ps e.0 e.1) es (put_fits levels ps e.0 e.1 h more.0) more.1

  pairs_fit : (levels : ℕ) (all : List (KeyForm × Form)) (es : List (List ℕ × Form)) → EachFits levels es
      → pairs_misfits lacking levels all (members (map named es)) ≡ []
  pairs_fit levels all [] h = refl
  pairs_fit levels all (e ∷ es) h =
      ap (λ ms. under (name_step e.0) ms ++ pairs_misfits lacking levels all (members (map named es))) h.0 ∙ pairs_fit levels all es h.1

  -- the pairs that some members are, none of which is refused
  record AreFit (levels : ℕ) (pairs : List (KeyForm × Form)) : Type 0 where
    entries : List (List ℕ × Form)
    are : pairs ≡ map named entries
    fit : EachFits levels entries

  mutual
    pub read_fits : (levels : ℕ) (j : Json) (v : Form) → misfits levels j ≡ [] → Documents j v → value_misfits lacking levels v ≡ []
    read_fits levels null v e d = ap (value_misfits lacking levels) d
    read_fits levels (boolean b) v e d = ap (value_misfits lacking levels) d
    read_fits levels (json.number s) v e d = ap (value_misfits lacking levels) d.2
    read_fits levels (string s) v e d = ap (value_misfits lacking levels) d
    read_fits levels (json.array js) v e d =
        let within = within_levels (levels == 0) _ e in
        ap (value_misfits lacking levels) d.2
        ∙ ap (λ b. cond b (here too_deep ∷ []) (values_misfits lacking (levels - 1) 0 (items d.0))) within.0
        ∙ items_fit (levels - 1) 0 js d.0 within.1 d.1
    read_fits levels (json.object ms) v e d =
        let within = within_levels (levels == 0) _ e in
        let fit = members_fit (levels - 1) ms d.0 within.1 d.1 in
        let all = put_all key_form_order [] d.0 in
        let pairs = ap (put_all key_form_order []) fit.are ∙ all_named [] fit.entries in
        ap (value_misfits lacking levels) d.2
        ∙ ap (λ b. cond b (here too_deep ∷ []) (pairs_misfits lacking (levels - 1) (members_list (members all)) (members all))) within.0
        ∙ ap (pairs_misfits lacking (levels - 1) (members_list (members all))) (ap members pairs)
        ∙ pairs_fit (levels - 1) _ (put_all name_order [] fit.entries) (put_all_fit (levels - 1) [] fit.entries tt fit.fit)

    items_fit : (levels n : ℕ) (js : Items) (xs : List Form) → item_misfits levels n js ≡ [] → DocumentItems js xs
        → values_misfits lacking levels n (items xs) ≡ []
    items_fit levels n no_items xs e d = ap (λ ys. values_misfits lacking levels n (items ys)) d
    items_fit levels n (item j js) xs e d =
        let parts = nil_front _ _ e in
        let first = read_fits levels j d.0 (nil_under (item_step n) _ parts.0) d.2 in
        ap (λ ys. values_misfits lacking levels n (items ys)) d.4
        ∙ ap (λ ms. under (item_step n) ms ++ values_misfits lacking levels (suc n) (items d.1)) first
        ∙ items_fit levels (suc n) js d.1 parts.1 d.3

    members_fit : (levels : ℕ) (ms : Members) (pairs : List (KeyForm × Form)) → member_misfits levels ms ≡ [] → DocumentMembers ms pairs → AreFit levels pairs
    members_fit levels no_members pairs e d = record { entries = []; are = d; fit = tt }
    members_fit levels (member name j ms) pairs e d =
        let parts = nil_front _ _ e in
        let rest = members_fit levels ms d.1 parts.1 d.3 in
        record {
          entries = (name, d.0) ∷ rest.entries;
          are = d.4 ∙ ap (λ ps. named (name, d.0) ∷ ps) rest.are;
          fit = (read_fits levels j d.0 (nil_under (name_step name) _ parts.0) d.2, rest.fit);
        }
