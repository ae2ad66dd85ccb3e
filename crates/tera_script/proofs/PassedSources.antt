-- Maps whose keys are all texts, as they are passed: there is a state that they spell, or none.
use Rattle.std.proofs.Common.{◌≡◌, ◌≢◌, ◌≤◌, ℕ, suc, Bool, true, false, cond, List, [], ◌∷◌, ◌++◌, Option, Some, None, refl, ap, sym, ◌∙◌, arith, subst}
use Rattle.std.specs.Borrow.{Bor}
use Rattle.std.specs.Prelude.{IsSome, Result, Ok, Err}
use Rattle.std.specs.FinMap.{empty, get-empty, insert}
use Rattle.std.specs.List.{AllByRecursion}
use Rattle.std.specs.Ordering.{eq_by_cmp}
use Rattle.std.specs.Str.{IsUtf8}
use Rattle.std.proofs.lemmas.Option.{same_Some}
use Rattle.tera_meaning.specs.Integer.{Integer}
use Rattle.tera_meaning.specs.Form.{Form, MarkedText}
use Rattle.tera_meaning.specs.KeyMeaning.{KeyForm, truth_key, number_key, text_key}
use Rattle.tera_meaning.specs.Pairs.{HasDistinctKeys, key_form_order, put, put_all}
use Rattle.tera_meaning.specs.Read.{members_in}
use Rattle.tera_meaning.specs.State.{State}
use Rattle.tera_meaning.specs.Tree.{Members, object, no_members, member, members, members_list, depth}
use Rattle.tera_meaning.proofs.TreeLaws.{list_of_members}
use Rattle.tera_values.specs.Key.{text_in_key}
use Rattle.tera_script.specs.Line.{AreNamed, SpellsSource, levels}
use Rattle.tera_script.specs.Literal.{tree_value, pair_values, in_places}
use Rattle.tera_script.specs.Readers.{AllIn, BeginsWithLiteral, IsLiteralAt, MoreIn, gap_at}
use Rattle.tera_script.specs.inner.Command.{Begins, IsGivenAt, IsSourceOf, IsValueAt}
use Rattle.tera_script.specs.inner.Passed.{Passes, BeginsWithPairIf, IsTextIf, IsMapIfAt}
use Rattle.tera_script.specs.declared.stop.Stop.{Stop}
use Rattle.tera_script.specs.declared.verb.Shape.TheVariants as shape
use Rattle.tera_script.proofs.Literals.{literal_found}
use Rattle.tera_script.proofs.Names.{gap_found}
use Rattle.tera_script.proofs.Openings.{stands}
use Rattle.tera_script.proofs.Passed.{all_plain, all_if}
use Rattle.tera_script.proofs.Places.{keys_distinct}
use Rattle.tera_script.proofs.Sources.{IsTextPair, IsSoFar, all_named, one_more}
use Rattle.tera_script.proofs.Utf8.{after_byte, utf8_past_blanks}
use Rattle.tera_script.proofs.Values.{literal_of, pairs_same, source_found, source_value, value_at}

-- ---- which keys are texts

tie_text : (k l : KeyForm) → eq_by_cmp key_form_order k l ≡ true → IsSome (text_in_key l) → IsSome (text_in_key k)
tie_text (text_key t) l e h = refl
tie_text (truth_key b) (text_key t) e h = absurd (cc)
tie_text (number_key n) (text_key t) e h = absurd (cc)
tie_text (truth_key b) (truth_key c) e h = cc
tie_text (truth_key b) (number_key n) e h = cc
tie_text (number_key n) (truth_key b) e h = cc
tie_text (number_key n) (number_key m) e h = cc

-- a pair that is put brings a text as its key where all are texts then, and they were before
put_texts : (ps : List (KeyForm × Form)) (k : KeyForm) (v : Form) → AllByRecursion IsTextPair (put key_form_order ps k v)
    → AllByRecursion IsTextPair ps × IsSome (text_in_key k)
put_texts [] k v h = (tt, h.0)
put_texts (p ∷ ps) k v h = by (eq_by_cmp key_form_order k p.0) refl h (put_texts ps k v)
  where
    by : (tie : Bool) → eq_by_cmp key_form_order k p.0 ≡ tie
        → AllByRecursion IsTextPair (cond tie ((p.0, v) ∷ ps) (p ∷ put key_form_order ps k v))
        → (AllByRecursion IsTextPair (put key_form_order ps k v) → AllByRecursion IsTextPair ps × IsSome (text_in_key k))
        → AllByRecursion IsTextPair (p ∷ ps) × IsSome (text_in_key k)
    by true e h later = ((h.0, h.1), tie_text k p.0 e h.0)
    by false e h later = let rest = later h.1 in ((h.0, rest.0), rest.1)

all_put_texts : (ps es : List (KeyForm × Form)) → AllByRecursion IsTextPair (put_all key_form_order ps es)
    → AllByRecursion IsTextPair ps × AllByRecursion IsTextPair es
all_put_texts ps [] h = (h, tt)
all_put_texts ps (e ∷ es) h =
    let later = all_put_texts (put key_form_order ps e.0 e.1) es h in
    let first = put_texts ps e.0 e.1 later.0 in
    (first.0, (first.1, later.1))

-- and back
texts_put : (ps : List (KeyForm × Form)) (k : KeyForm) (v : Form) → AllByRecursion IsTextPair ps → IsSome (text_in_key k)
    → AllByRecursion IsTextPair (put key_form_order ps k v)
texts_put [] k v h t = (t, tt)
texts_put (p ∷ ps) k v h t = by (eq_by_cmp key_form_order k p.0) (texts_put ps k v h.1 t)
  where
    by : (tie : Bool) → AllByRecursion IsTextPair (put key_form_order ps k v)
        → AllByRecursion IsTextPair (cond tie ((p.0, v) ∷ ps) (p ∷ put key_form_order ps k v))
    by true later = (h.0, h.1)
    by false later = (h.0, later)

texts_all_put : (ps es : List (KeyForm × Form)) → AllByRecursion IsTextPair ps → AllByRecursion IsTextPair es
    → AllByRecursion IsTextPair (put_all key_form_order ps es)
texts_all_put ps [] h g = h
texts_all_put ps (e ∷ es) h g = texts_all_put (put key_form_order ps e.0 e.1) es (texts_put ps e.0 e.1 h g.0) g.1

written_texts : (all : Members Integer MarkedText KeyForm) → AllByRecursion IsTextPair (pair_values all)
    → AllByRecursion (λ e. IsTextIf true e.0) (members_list all)
written_texts no_members h = tt
written_texts (member k x ps) h = ((λ _. h.0), written_texts ps h.1)

texts_written : (all : Members Integer MarkedText KeyForm) → AllByRecursion (λ e. IsTextIf true e.0) (members_list all)
    → AllByRecursion IsTextPair (pair_values all)
texts_written no_members h = tt
texts_written (member k x ps) h = (h.0 refl, texts_written ps h.1)

-- ---- the state of pairs whose keys are texts

state_from : {value : Form} (left : List (KeyForm × Form)) {state : State} → IsSoFar value state left → AllByRecursion IsTextPair left
    → (source : State) × IsSourceOf value (Some source)
state_from [] {state} h texts = (state, all_named h refl)
state_from {value} (e ∷ left) {state} h texts = by (text_in_key e.0) refl texts.0 (λ later so_far. state_from left {state = later} so_far texts.1)
  where
    by : (t : Option (List ℕ)) → text_in_key e.0 ≡ t → IsSome t
        → ((later : State) → IsSoFar value later left → (source : State) × IsSourceOf value (Some source))
        → (source : State) × IsSourceOf value (Some source)
    by (Some t) is some go = go (insert state t e.1) (one_more h {rest = left} {k = e.0} {v = e.1} refl is refl)
    by None is some go = cc

-- a map whose pairs have texts as keys has a state
has_source : (pairs : List (KeyForm × Form)) → HasDistinctKeys key_form_order pairs → AllByRecursion IsTextPair pairs
    → (source : State) × IsSourceOf (object (members pairs)) (Some source)
has_source pairs apart texts =
    state_from pairs {state = empty} (record {
      done = [];
      texts = tt;
      so_far = λ name. get-empty _ name;
      whole = ap Some (list_of_members pairs);
      apart = apart;
    }) texts

-- keys that stand there as they are wanted
more_keys : (xs : List ℕ) (es : List (KeyForm × Form)) (rest : List ℕ) → MoreIn (BeginsWithPairIf true) 125 xs es rest
    → AllByRecursion (λ e. IsTextIf true e.0) es
more_keys xs [] rest h = tt
more_keys xs (e ∷ es) rest h = (h.3.1, more_keys h.1 es rest h.4)

all_keys : (xs : List ℕ) (es : List (KeyForm × Form)) (rest : List ℕ) → AllIn (BeginsWithPairIf true) 125 xs es rest
    → AllByRecursion (λ e. IsTextIf true e.0) es
all_keys xs [] rest h = tt
all_keys xs (e ∷ es) rest h = (h.1.1, more_keys h.0 es rest h.2)

-- ---- what is answered of a source

-- only a map is the value of a map's tree
object_tree : (tree : Form) (pairs : List (KeyForm × Form)) → object (members pairs) ≡ tree_value tree
    → (all : Members Integer MarkedText KeyForm) × (tree ≡ object all) × (pairs ≡ in_places (pair_values all))
object_tree (object all) pairs e = (all, refl, pairs_same pairs (in_places (pair_values all)) e)
object_tree tree pairs e = absurd (cc)

-- the map that a source is spelled by
record IsMapThere (literal : List ℕ) (rest : List ℕ) : Type 0 where
  all : Members Integer MarkedText KeyForm
  begins : BeginsWithLiteral literal (object all) rest
  shallow : depth (object all) ≤ levels
  texts : AllByRecursion (λ e. IsTextIf true e.0) (members_list all)

module _ (bytes : List ℕ) {literal : List ℕ} (g : gap_at bytes ≡ Some literal) where
  map_there : (source : State) (rest : List ℕ) → Begins SpellsSource bytes source rest → IsMapThere literal rest
  map_there source rest h =
      let v = source_value bytes source rest h in
      let o = object_tree v.spells.2 h.spells.0 v.spells.6 in
      record {
        all = o.0;
        begins = subst (λ tree. BeginsWithLiteral literal tree rest) o.1 (literal_of bytes literal g (object (members h.spells.0)) rest v);
        shallow = subst (λ tree. depth tree ≤ levels) o.1 v.spells.5;
        texts = written_texts o.0 (all_put_texts [] (pair_values o.0) (subst (AllByRecursion IsTextPair) o.2 h.spells.2.0)).1;
      }

  pub source_no_brace : ((inside : List ℕ) → literal ≢ (123 ∷ []) ++ inside) → IsGivenAt shape.Map bytes None
  source_no_brace none = λ utf8 source rest h s.
      let m = map_there source rest h in
      let inner = m.begins.spells in
      none ((inner.0 ++ 125 ∷ []) ++ rest) (m.begins.spelled ∙ ap (λ xs. xs ++ rest) inner.2)

  module _ {inside : List ℕ} (brace : literal ≡ 123 ∷ inside) where
    pub source_no_map : IsMapIfAt true levels inside None → IsGivenAt shape.Map bytes None
    source_no_map none = λ utf8 source rest h s.
        let m = map_there source rest h in
        let begins = subst (λ xs. BeginsWithLiteral xs (object m.all) rest) brace m.begins in
        let there = stands (123 ∷ inside) (object m.all) rest begins tt in
        let same : m.all ≡ there.0 = same_Some m.all there.0 (ap members_in_tree there.1) in
        let gap = gap_found bytes literal g in
        let inner = after_byte inside 123 (omega arith) (subst IsUtf8 brace (utf8_past_blanks gap.gap literal gap.blanks.1 (subst IsUtf8 gap.spelled utf8))) in
        none inner there.0 rest (all_if true inside (members_list there.0) rest
        (subst (λ all. AllByRecursion (λ e. IsTextIf true e.0) (members_list all)) same m.texts) there.2)
        (subst (λ all. depth (object all) ≤ levels) same m.shallow)
      where
        members_in_tree : Form → Option (Members Integer MarkedText KeyForm)
        members_in_tree (object all) = Some all
        members_in_tree tree = None

    pub source_passed : (all : Members Integer MarkedText KeyForm) (rest : List ℕ) → IsMapIfAt true levels inside (Some (all, rest))
        → (source : State) × IsGivenAt shape.Map bytes (Some (source, rest))
    source_passed all rest found =
        let pairs = in_places (pair_values all) in
        let value = object (members pairs) in
        let texts = texts_all_put [] (pair_values all) tt (texts_written all (all_keys inside (members_list all) rest found.0)) in
        let named = has_source pairs (keys_distinct (pair_values all)) texts in
        let read : IsLiteralAt levels literal (Some (value, rest)) =
        rw brace (literal_found levels (123 ∷ inside) (Some (value, rest)) (all, refl, all_plain true inside (members_list all) rest found.0, found.1)) in
        (named.0, source_found (value_at bytes g (Some (value, rest)) read) named.1)

    pub map_source_passed : (result : Result (Bor (List ℕ)) Stop) → Passes (IsMapIfAt true levels inside) result
        → Passes (IsGivenAt shape.Map bytes) result
    map_source_passed (Ok rest) h = source_passed h.0 rest.now h.1
    map_source_passed (Err stop) h = source_no_map h
