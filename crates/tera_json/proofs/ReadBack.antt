-- What is written of a value is read back as its document.
use Rattle.std.specs.Prelude.{◌≡◌, ◌≤◌, ◌-◌, ◌==◌, suc, ℕ, List, [], ◌++◌, Some}
use Rattle.std.proofs.Common.{sym, ap, ◌∙◌, subst, arith, append-nil}
use Rattle.std.proofs.lemmas.Bool.{eqb-false}
use Rattle.std.proofs.lemmas.List.{append_assoc}
use Rattle.json.specs.Json.{Json, null, boolean, number, string, array, object, Items, no_items, item, Members, no_members, member, document}
use Rattle.json.specs.Lex.{tokens}
use Rattle.json.specs.Print.{print, ArePrintableOrBad}
use Rattle.json.specs.Token.{Token}
use Rattle.json.specs.Tree.{json_tokens, items_tokens, members_tokens, depth, items_depth, members_depth, HasNumbers, ItemsHaveNumbers, MembersHaveNumbers}
use Rattle.json.proofs.Numbered.{ArePrintableOrBad-tokens}
use Rattle.json.proofs.Printed.Trees.{document-print}
use Rattle.tera_json.specs.Misfits.{under}
use Rattle.tera_json.specs.Places.{item_step, name_step}
use Rattle.tera_json.specs.Written.{document_of, documents_of, members_of, name_of, value_misfits, values_misfits, pairs_misfits, key_misfits}
use Rattle.tera_json.specs.declared.write.Lacking.{Lacking}
use Rattle.tera_json.proofs.Stops.{nil_front, nil_under, within_levels}
use Rattle.tera_meaning.specs.Form.{Form, MarkedText}
use Rattle.tera_meaning.specs.Integer.{Integer}
use Rattle.tera_meaning.specs.KeyMeaning.{KeyForm}
use Rattle.tera_meaning.specs.Tree as tree

-- ---- the numbers of tokens that can be printed

mutual
  numbers : (j : Json) (rest : List Token) → ArePrintableOrBad (json_tokens j ++ rest) → HasNumbers j × ArePrintableOrBad rest
  numbers null rest h = (tt, h.1)
  numbers (boolean b) rest h = (tt, h.1)
  numbers (number s) rest h = h
  numbers (string s) rest h = (tt, h.1)
  numbers (array js) rest h = items_numbers js rest h.1
  numbers (object ms) rest h = members_numbers ms rest h.1

  items_numbers : (js : Items) (rest : List Token) → ArePrintableOrBad (items_tokens js ++ rest) → ItemsHaveNumbers js × ArePrintableOrBad rest
  items_numbers no_items rest h = (tt, h.1)
  items_numbers (item j js) rest h =
      let first = numbers j (items_tokens js ++ rest) (subst ArePrintableOrBad (append_assoc (json_tokens j) (items_tokens js) rest) h) in
      let others = items_numbers js rest first.1 in
      ((first.0, others.0), others.1)

  members_numbers : (ms : Members) (rest : List Token) → ArePrintableOrBad (members_tokens ms ++ rest) → MembersHaveNumbers ms × ArePrintableOrBad rest
  members_numbers no_members rest h = (tt, h.1)
  members_numbers (member name j ms) rest h =
      let first = numbers j (members_tokens ms ++ rest) (subst ArePrintableOrBad (append_assoc (json_tokens j) (members_tokens ms) rest) h.1) in
      let others = members_numbers ms rest first.1 in
      ((first.0, others.0), others.1)

-- ---- the depth of what is not refused

module _ (lacking : Lacking) where
  mutual
    shallow : (levels : ℕ) (v : Form) → value_misfits lacking levels v ≡ [] → depth (document_of v) ≤ levels
    shallow levels tree.undefined e = omega arith
    shallow levels tree.none e = omega arith
    shallow levels (tree.truth b) e = omega arith
    shallow levels (tree.number n) e = omega arith
    shallow levels (tree.text t) e = omega arith
    shallow levels (tree.bytes bs) e = omega arith
    shallow levels (tree.array xs) e =
        let within = within_levels (levels == 0) _ e in
        omega (arith, eqb-false levels 0 within.0, items_shallow (levels - 1) 0 xs within.1)
    shallow levels (tree.object ps) e =
        let within = within_levels (levels == 0) _ e in
        omega (arith, eqb-false levels 0 within.0, pairs_shallow (levels - 1) (tree.members_list ps) ps within.1)

    items_shallow : (levels n : ℕ) (xs : tree.Items Integer MarkedText KeyForm) → values_misfits lacking levels n xs ≡ []
        → items_depth (documents_of xs) ≤ levels
    items_shallow levels n tree.no_items e = omega arith
    items_shallow levels n (tree.item x xs) e =
        let parts = nil_front _ _ e in
        omega (arith, shallow levels x (nil_under (item_step n) _ parts.0), items_shallow levels (suc n) xs parts.1)

    pairs_shallow : (levels : ℕ) (all : List (KeyForm × Form)) (ps : tree.Members Integer MarkedText KeyForm) → pairs_misfits lacking levels all ps ≡ []
        → members_depth (members_of ps) ≤ levels
    pairs_shallow levels all tree.no_members e = omega arith
    pairs_shallow levels all (tree.member k x ps) e =
        let parts = nil_front (under (name_step (name_of k)) (value_misfits lacking levels x)) _ (nil_front (key_misfits all k) _ e).1 in
        omega (arith, shallow levels x (nil_under (name_step (name_of k)) _ parts.0), pairs_shallow levels all ps parts.1)

  -- the text of the tokens of a value that is not refused
  pub read_back : (v : Form) (ts : List Token) (text : List ℕ) → value_misfits lacking 64 v ≡ [] → ts ≡ json_tokens (document_of v)
      → tokens (print ts) ≡ ts → text ≡ print ts → document text ≡ Some (document_of v)
  read_back v ts text none is lexed e =
      let printable = subst ArePrintableOrBad (lexed ∙ is ∙ sym (append-nil (json_tokens (document_of v)))) (ArePrintableOrBad-tokens (print ts)) in
      let has = (numbers (document_of v) [] printable).0 in
      ap document (e ∙ ap print is) ∙ document-print (document_of v) has (omega (arith, shallow 64 v none))
