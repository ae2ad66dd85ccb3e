-- Parts of a line: what a reader of one answers, and of one that stands behind a name or a gap.
use Rattle.std.proofs.Common.{arith, ◌≡◌, ℕ, List, ◌++◌, Option, Some, None, refl, ap, sym, ◌∙◌, append_assoc, subst, false, [], ◌∷◌}
use Rattle.std.specs.Option.{option_map, option_and_then}
use Rattle.std.specs.Str.{IsUtf8}
use Rattle.std.proofs.lemmas.Option.{some_pair_parts, same_Some}
use Rattle.tera_script.specs.Word.{is_name_byte}
use Rattle.tera_script.specs.Line.{SpellsOperand, SpellsBoth, levels, AreNamed, SpellsValue, SpellsSource, SpellsQuoted, SpellsBounds, SpellsGiven}
use Rattle.tera_script.specs.Readers.{Stops, is_word_byte, operand_at, gap_at, names_at, bounds_at, BeginsWithLiteral, Ends, IsLiteralAt, IsQuotedAt}
use Rattle.tera_script.specs.inner.Command.{Begins, IsPartAt, EndsName, EndsBoth, IsTextAt, IsValueAt, IsSourceOf, IsTypeOf, EndsWord, EndsItself, EndsGiven}
use Rattle.tera_script.specs.inner.Command.{IsGivenAt}
use Rattle.tera_script.proofs.Names.{operand_found, operand_only, gap_found, gap_only}
use Rattle.tera_script.proofs.Operands.{operand_ends_name, stops_name, behind_gap}
use Rattle.tera_script.proofs.Utf8.{utf8_past_operand, utf8_past_blanks}
use Rattle.tera_meaning.specs.Conversion.{IntegerType, type_name}
use Rattle.tera_meaning.specs.Form.{Form}
use Rattle.tera_meaning.specs.KeyMeaning.{KeyForm}
use Rattle.tera_meaning.specs.Read.{members_in, text_in}
use Rattle.tera_meaning.specs.State.{State}
use Rattle.tera_meaning.specs.Tree.{undefined, object, members, text}
use Rattle.tera_meaning.proofs.TreeLaws.{list_of_members}
use Rattle.tera_script.specs.declared.bound.Bounds.{Bounds}
use Rattle.tera_script.specs.declared.verb.Shape.{Shape}
use Rattle.tera_script.specs.declared.verb.Shape.TheVariants as shape
use Rattle.tera_script.specs.Literal.{SpellsTree, tree_value}
use Rattle.tera_script.proofs.Bounds.{bounds_found, bounds_only, bound_ends_word}
use Rattle.tera_script.proofs.Literals.{only_at, literal_found}
use Rattle.tera_script.proofs.Openings.{stops_end}
use Rattle.tera_script.proofs.Shapes.{literal_stops_blanks}
use Rattle.tera_script.proofs.Sources.{one_state}
use Rattle.tera_script.proofs.Verbs.{same_type}

-- one part stands at a place and ends at one; it ends where a word does; and it ends a name before it
pub record AreParts {E : Type 0} (Spells : List ℕ → E → Type 0) (EndsSo : E → List ℕ → Type 0) : Type 0 where
  pub one : (bytes : List ℕ) (e f : E) (x y : List ℕ) → Begins Spells bytes e x → EndsSo e x → Begins Spells bytes f y → EndsSo f y
      → (e ≡ f) × (x ≡ y)
  pub ends : (e : E) (rest : List ℕ) → Stops is_word_byte rest → EndsSo e rest
  pub opens : (part rest : List ℕ) (e : E) → Spells part e → Stops is_name_byte (part ++ rest)

-- names
name_at_front : (bytes name rest : List ℕ) → Begins SpellsOperand bytes name rest → Stops is_name_byte rest → operand_at bytes ≡ Some (name, rest)
name_at_front bytes name rest h s = rw (h.spelled) (operand_only h.part name rest h.spells s)

pub name_part : (bytes : List ℕ) {answer : Option (List ℕ × List ℕ)} → answer ≡ operand_at bytes → IsPartAt SpellsOperand EndsName bytes answer
name_part bytes {answer = None} e = λ utf8 name rest h s. let found = name_at_front bytes name rest h (stops_name rest s) in cc
name_part bytes {answer = Some (name, rest)} e = operand_found bytes name rest (sym e)

pub name_parts : AreParts SpellsOperand EndsName
name_parts = record {
  one = λ bytes e f x y h s g t. some_pair_parts e f x y (sym (name_at_front bytes e x h s) ∙ name_at_front bytes f y g t);
  ends = λ e rest s. stops_name rest s;
  opens = λ part rest e h. operand_ends_name part e rest h;
}

-- a part behind a name
module _ {E : Type 0} {Spells : List ℕ → E → Type 0} {EndsSo : E → List ℕ → Type 0} (parts : AreParts Spells EndsSo) where
  has_both : (bytes : List ℕ) (both : List ℕ × E) (rest : List ℕ) → Begins (SpellsBoth Spells) bytes both rest
      → (behind : List ℕ) × (operand_at bytes ≡ Some (both.0, behind)) × Begins Spells behind both.1 rest
  has_both bytes both rest h =
      let s = h.spells in (
        s.1 ++ rest,
        rw (h.spelled, s.4, append_assoc s.0 s.1 rest) (operand_only s.0 both.0 (s.1 ++ rest) s.2 (parts.opens s.1 rest both.1 s.3)),
        record { part = s.1; spells = s.3; spelled = refl },
      )

  pub no_name : {bytes : List ℕ} → None ≡ operand_at bytes → IsPartAt (SpellsBoth Spells) (EndsBoth EndsSo) bytes None
  no_name {bytes} e = λ utf8 both rest h s. let found = (has_both bytes both rest h).1 in cc

  pub both_at : (bytes : List ℕ) {name behind : List ℕ} → Some (name, behind) ≡ operand_at bytes → (answer : Option (E × List ℕ))
      → IsPartAt Spells EndsSo behind answer
      → IsPartAt (SpellsBoth Spells) (EndsBoth EndsSo) bytes (option_map (λ found. ((name, found.0), found.1)) answer)
  both_at bytes {name} {behind} n None nothing = λ utf8 both rest h s.
      let has = has_both bytes both rest h in
      let same = some_pair_parts name both.0 behind has.0 (n ∙ has.1) in
      let operand = (operand_found bytes name behind (sym n)).0 in
      nothing (utf8_past_operand operand.part name behind operand.spells (subst IsUtf8 operand.spelled utf8)) both.1 rest
      (subst (λ xs. Begins Spells xs both.1 rest) (sym same.1) has.2) s
  both_at bytes {name} {behind} n (Some (e, rest)) found =
      let operand = (operand_found bytes name behind (sym n)).0 in
      let begins = found.0 in (
        record {
          part = operand.part ++ begins.part;
          spells = (operand.part, begins.part, operand.spells, begins.spells, refl);
          spelled = operand.spelled ∙ ap (λ xs. operand.part ++ xs) begins.spelled ∙ sym (append_assoc operand.part begins.part rest);
        },
        found.1,
      )

  pub both_parts : AreParts (SpellsBoth Spells) (EndsBoth EndsSo)
  both_parts = record {
    one = λ bytes p q x y h s g t.
        let a = has_both bytes p x h in
        let b = has_both bytes q y g in
        let same = some_pair_parts p.0 q.0 a.0 b.0 (sym a.1 ∙ b.1) in
        let rest = parts.one a.0 p.1 q.1 x y a.2 s (subst (λ xs. Begins Spells xs q.1 y) (sym same.1) b.2) t in
        ((λ i. (same.0 i, rest.0 i)), rest.1);
    ends = λ both rest s. parts.ends both.1 rest s;
    opens = λ part rest both h. rw (h.4, append_assoc h.0 h.1 rest) (operand_ends_name h.0 both.0 (h.1 ++ rest) h.2);
  }

-- ---- values

-- a value ends where the tree does by which it is written
ends_tree : (tree : Form) (rest : List ℕ) → Ends (tree_value tree) rest → Ends tree rest
ends_tree undefined rest h = h
ends_tree tree rest h = h

tree_ends : (tree : Form) (rest : List ℕ) → Ends tree rest → Ends (tree_value tree) rest
tree_ends undefined rest h = h
tree_ends tree rest h = h

-- the literal of a value
at_literal : (bytes : List ℕ) (value : Form) (rest : List ℕ) (h : Begins SpellsValue bytes value rest) → gap_at bytes ≡ Some (h.spells.1 ++ rest)
at_literal bytes value rest h =
    let v = h.spells in
    rw (h.spelled, v.7, append_assoc v.0 v.1 rest) (gap_only v.0 (v.1 ++ rest) v.3 (literal_stops_blanks v.1 rest v.2 v.4))

pub literal_of : (bytes at_value : List ℕ) (g : gap_at bytes ≡ Some at_value) (value : Form) (rest : List ℕ) (h : Begins SpellsValue bytes value rest)
    → BeginsWithLiteral at_value h.spells.2 rest
literal_of bytes at_value g value rest h =
    record { literal = h.spells.1; spells = h.spells.4; spelled = same_Some _ _ (sym g ∙ at_literal bytes value rest h) }

pub value_parts : AreParts SpellsValue Ends
value_parts = record {
  one = λ bytes v w x y h s g t.
      let at = at_literal bytes v x h in
      let same = only_at h.spells.2 (h.spells.1 ++ x) x (literal_of bytes (h.spells.1 ++ x) at v x h)
      (ends_tree h.spells.2 x (subst (λ u. Ends u x) h.spells.6 s)) g.spells.2 y (literal_of bytes (h.spells.1 ++ x) at w y g)
      (ends_tree g.spells.2 y (subst (λ u. Ends u y) g.spells.6 t)) in
      (h.spells.6 ∙ ap tree_value same.0 ∙ sym g.spells.6, same.1);
  ends = λ v rest s. stops_end v rest s;
  opens = λ part rest v h. stops_name (part ++ rest) (behind_gap part h.0 h.1 rest h.3 h.7);
}

pub no_gap : {bytes : List ℕ} → gap_at bytes ≡ None → IsValueAt bytes None
no_gap {bytes} e = λ utf8 value rest h s. let found = at_literal bytes value rest h in cc

pub value_at : (bytes : List ℕ) {at_value : List ℕ} → gap_at bytes ≡ Some at_value → (answer : Option (Form × List ℕ)) → IsLiteralAt levels at_value answer
    → IsValueAt bytes answer
value_at bytes {at_value} g None nothing = λ utf8 value rest h s.
    let gap = gap_found bytes at_value g in
    let u = utf8_past_blanks gap.gap at_value gap.blanks.1 (subst IsUtf8 gap.spelled utf8) in
    nothing u h.spells.2 rest (literal_of bytes at_value g value rest h) h.spells.5 s
value_at bytes {at_value} g (Some (value, rest)) found =
    let gap = gap_found bytes at_value g in
    let l = found.2 in (
      record {
        part = gap.gap ++ l.literal;
        spells = (gap.gap, l.literal, found.0, gap.blanks, l.spells, found.4, found.1, refl);
        spelled = gap.spelled ∙ ap (λ xs. gap.gap ++ xs) l.spelled ∙ sym (append_assoc gap.gap l.literal rest);
      },
      subst (λ v. Ends v rest) (sym found.1) (tree_ends found.0 rest found.3),
    )

-- ---- texts in quotes

abbrev pub spelled_text : List ℕ → Form
spelled_text t = text (record { spelled = t; safe = false })

-- a text is a value
abbrev quoted_value : (bytes t rest : List ℕ) → Begins SpellsQuoted bytes t rest → Begins SpellsValue bytes (spelled_text t) rest
quoted_value bytes t rest h = record {
  part = h.part;
  spells = (h.spells.0, h.spells.1, spelled_text t, h.spells.2, h.spells.3, omega arith, refl, h.spells.4);
  spelled = h.spelled;
}

text_tree : (t : List ℕ) (tree : Form) → spelled_text t ≡ tree_value tree → tree ≡ spelled_text t
text_tree t (text u) e = sym e
text_tree t tree e = absurd (cc)

text_by_value : (bytes : List ℕ) (answer : Option (List ℕ × List ℕ)) → IsValueAt bytes (option_map (λ found. (spelled_text found.0, found.1)) answer)
    → IsTextAt bytes answer
text_by_value bytes None nothing = λ utf8 t rest h s. nothing utf8 (spelled_text t) rest (quoted_value bytes t rest h) s
text_by_value bytes (Some (t, rest)) found =
    let s = found.0.spells in
    (record { part = found.0.part; spells = (s.0, s.1, s.3, subst (SpellsTree s.1) (text_tree t s.2 s.6) s.4, s.7); spelled = found.0.spelled }, tt)

pub quoted_parts : AreParts SpellsQuoted EndsItself
quoted_parts = record {
  one = λ bytes t u x y h s g r.
      let same = value_parts.one bytes (spelled_text t) (spelled_text u) x y (quoted_value bytes t x h) tt (quoted_value bytes u y g) tt in
      (same_Some t u (ap text_in same.0), same.1);
  ends = λ t rest s. tt;
  opens = λ part rest t h. stops_name (part ++ rest) (behind_gap part h.0 h.1 rest h.2 h.4);
}

pub text_none_gap : {bytes : List ℕ} → gap_at bytes ≡ None → IsTextAt bytes None
text_none_gap {bytes} e = text_by_value bytes None (no_gap e)

module _ (bytes : List ℕ) {literal : List ℕ} (g : gap_at bytes ≡ Some literal) where
  pub text_none_quote : ((quoted : List ℕ) → literal ≡ 34 ∷ quoted → ⊥) → IsTextAt bytes None
  text_none_quote no_quote = λ utf8 t rest h s.
      let at = same_Some literal (h.spells.1 ++ rest) (sym g ∙ at_literal bytes (spelled_text t) rest (quoted_value bytes t rest h)) in
      no_quote ((h.spells.3.0 ++ 34 ∷ []) ++ rest) (at ∙ ap (λ xs. xs ++ rest) h.spells.3.2)

  pub text_at : (quoted : List ℕ) → literal ≡ 34 ∷ quoted → (answer : Option (List ℕ × List ℕ))
      → IsQuotedAt false quoted (option_map (λ found. (spelled_text found.0, found.1)) answer) → IsTextAt bytes answer
  text_at quoted q answer h = text_by_value bytes answer (value_at bytes g _ (rw q (literal_found levels (34 ∷ quoted) _ h)))

-- ---- bounds

bounds_front : (bytes : List ℕ) (bounds : Bounds) (rest : List ℕ) → Begins SpellsBounds bytes bounds rest → Stops is_word_byte rest
    → bounds_at bytes ≡ Some (bounds, rest)
bounds_front bytes bounds rest h s = rw (h.spelled) (bounds_only h.part bounds rest h.spells s)

pub bounds_parts : AreParts SpellsBounds EndsWord
bounds_parts = record {
  one = λ bytes a b x y h s g t. some_pair_parts a b x y (sym (bounds_front bytes a x h s) ∙ bounds_front bytes b y g t);
  ends = λ a rest s. s;
  opens = λ part rest a h.
      stops_name (part ++ rest) (rw (h.6, append_assoc h.0 (h.1 ++ h.2) rest) (bound_ends_word h.0 a.start ((h.1 ++ h.2) ++ rest) h.3));
}

pub bounds_part : (bytes : List ℕ) {answer : Option (Bounds × List ℕ)} → answer ≡ bounds_at bytes → IsPartAt SpellsBounds EndsWord bytes answer
bounds_part bytes {answer = None} e = λ utf8 bounds rest h s. let found = bounds_front bytes bounds rest h s in cc
bounds_part bytes {answer = Some (bounds, rest)} e = bounds_found bytes bounds rest (sym e)

-- ---- maps whose keys are all texts

pub pairs_same : (ps qs : List (KeyForm × Form)) → object (members ps) ≡ object (members qs) → ps ≡ qs
pairs_same ps qs e = same_Some ps qs (sym (ap Some (list_of_members ps)) ∙ ap members_in e ∙ ap Some (list_of_members qs))

pub source_value : (bytes : List ℕ) (source : State) (rest : List ℕ) (h : Begins SpellsSource bytes source rest)
    → Begins SpellsValue bytes (object (members h.spells.0)) rest
source_value bytes source rest h = record { part = h.part; spells = h.spells.1; spelled = h.spelled }

pub source_parts : AreParts SpellsSource EndsItself
source_parts = record {
  one = λ bytes a b x y h s g t.
      let same = value_parts.one bytes (object (members h.spells.0)) (object (members g.spells.0)) x y (source_value bytes a x h) tt
      (source_value bytes b y g) tt in
      let pairs = pairs_same h.spells.0 g.spells.0 same.0 in
      (one_state g.spells.0 a b (subst (λ ps. AreNamed ps a) pairs h.spells.2) g.spells.2, same.1);
  ends = λ source rest s. tt;
  opens = λ part rest source h. value_parts.opens part rest (object (members h.0)) h.1;
}

pub source_none : {bytes : List ℕ} → IsValueAt bytes None → IsGivenAt shape.Map bytes None
source_none {bytes} nothing = λ utf8 source rest h s. nothing utf8 (object (members h.spells.0)) rest (source_value bytes source rest h) s

pub source_at : {bytes : List ℕ} {value : Form} {rest : List ℕ} → IsValueAt bytes (Some (value, rest)) → IsSourceOf value None
    → IsGivenAt shape.Map bytes None
source_at {bytes} {value} {rest} found nothing = λ utf8 source other h s.
    nothing h.spells.0 source (value_parts.one bytes value (object (members h.spells.0)) rest other found.0 found.1 (source_value bytes source other h) tt).0
    h.spells.2

pub source_found : {bytes : List ℕ} {value : Form} {source : State} {rest : List ℕ} → IsValueAt bytes (Some (value, rest)) → IsSourceOf value (Some source)
    → IsGivenAt shape.Map bytes (Some (source, rest))
source_found {bytes} {value} {source} {rest} found named =
    (record { part = found.0.part; spells = (named.0, subst (SpellsValue found.0.part) named.1 found.0.spells, named.2); spelled = found.0.spelled }, tt)

-- ---- an integer type and a name

pub names_parts : AreParts (SpellsGiven shape.Names) (EndsGiven shape.Names)
names_parts = both_parts name_parts

-- a name, and the name behind it
abbrev both_names : Option (List ℕ × List ℕ) → Option ((List ℕ × List ℕ) × List ℕ)
both_names left = option_and_then (λ l. option_map (λ right. ((l.0, right.0), right.1)) (operand_at l.1)) left

names_are : (bytes : List ℕ) → names_at bytes ≡ both_names (operand_at bytes)
unfolding names_at
names_are bytes = grind arith

names_by : (bytes : List ℕ) (left : Option (List ℕ × List ℕ)) → left ≡ operand_at bytes → IsGivenAt shape.Names bytes (both_names left)
names_by bytes None l = no_name name_parts l
names_by bytes (Some (left, behind)) l = both_at name_parts bytes l (operand_at behind) (name_part behind refl)

pub names_part : (bytes : List ℕ) {answer : Option ((List ℕ × List ℕ) × List ℕ)} → answer ≡ names_at bytes → IsGivenAt shape.Names bytes answer
names_part bytes e = rw (e, names_are bytes) (names_by bytes (operand_at bytes) refl)

typed_names : (bytes : List ℕ) (given : IntegerType × List ℕ) (rest : List ℕ) → Begins (SpellsGiven shape.Type) bytes given rest
    → Begins (SpellsGiven shape.Names) bytes (type_name given.0, given.1) rest
typed_names bytes given rest h = record { part = h.part; spells = h.spells; spelled = h.spelled }

pub type_parts : AreParts (SpellsGiven shape.Type) (EndsGiven shape.Type)
type_parts = record {
  one = λ bytes a b x y h s g t.
      let same = names_parts.one bytes (type_name a.0, a.1) (type_name b.0, b.1) x y (typed_names bytes a x h) s (typed_names bytes b y g) t in
      let types = same_type a.0 b.0 (λ i. (same.0 i).0) in
      ((λ i. (types i, (same.0 i).1)), same.1);
  ends = λ given rest s. stops_name rest s;
  opens = λ part rest given h. names_parts.opens part rest (type_name given.0, given.1) h;
}

module _ {bytes : List ℕ} where
  pub type_none : IsGivenAt shape.Names bytes None → IsGivenAt shape.Type bytes None
  type_none nothing = λ utf8 given rest h s. nothing utf8 (type_name given.0, given.1) rest (typed_names bytes given rest h) s

  module _ {word name rest : List ℕ} (found : IsGivenAt shape.Names bytes (Some ((word, name), rest))) where
    pub type_unknown : IsTypeOf word None → IsGivenAt shape.Type bytes None
    type_unknown none = λ utf8 given other h s.
        let same = names_parts.one bytes (word, name) (type_name given.0, given.1) rest other found.0 found.1 (typed_names bytes given other h)
        (stops_name other s) in
        none given.0 (sym (λ i. (same.0 i).0))

    pub type_found : (type : IntegerType) → type_name type ≡ word → IsGivenAt shape.Type bytes (Some ((type, name), rest))
    type_found type is = (
      record { part = found.0.part; spells = subst (λ w. SpellsGiven shape.Names found.0.part (w, name)) (sym is) found.0.spells; spelled = found.0.spelled },
      found.1,
    )

-- ---- every shape

pub parts_of : (s : Shape) → AreParts (SpellsGiven s) (EndsGiven s)
parts_of shape.Name = name_parts
parts_of shape.Names = names_parts
parts_of shape.Text = both_parts quoted_parts
parts_of shape.Bounds = both_parts bounds_parts
parts_of shape.Type = type_parts
parts_of shape.Literal = both_parts value_parts
parts_of shape.Map = source_parts
