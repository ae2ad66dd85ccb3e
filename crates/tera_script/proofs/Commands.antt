-- Commands: what the readers of operands and of commands answer.
use Rattle.std.proofs.Common.{◌≡◌, ℕ, List, ◌++◌, Option, Some, None, refl, ap, sym, ◌∙◌, append_assoc, subst, inl, inr}
use Rattle.std.specs.Option.{option_map}
use Rattle.std.specs.Str.{IsUtf8}
use Rattle.std.proofs.lemmas.Option.{same_Some, some_pair_parts}
use Rattle.tera_context.specs.Request.{command_form}
use Rattle.tera_context.specs.declared.request.Command.{Command as LentCommand}
use Rattle.tera_meaning.specs.Request.{Command, Request}
use Rattle.tera_script.specs.declared.verb.Known.{Known}
use Rattle.tera_script.specs.declared.verb.Shape.{Shape}
use Rattle.tera_script.specs.declared.verb.Verb.{Verb}
use Rattle.tera_script.specs.declared.verb.Verb.TheVariants as verb
use Rattle.tera_script.specs.Verb.{Given, Making, of_name, of_names, of_text, of_bounds, of_type, of_literal, of_map, shape_of, requested, Row, row_of, word_of}
use Rattle.tera_script.specs.Word.{is_name_byte}
use Rattle.tera_script.specs.Line.{SpellsGiven, SpellsOperands, SpellsCommand, BringsNothing, HasNoEscape, IsBare}
use Rattle.tera_script.specs.Readers.{Stops, name_at, into_in, is_word_byte}
use Rattle.tera_script.specs.inner.Call.{IsOfShape, IsVerbOf, request_in, with_into}
use Rattle.tera_script.specs.inner.Command.{OperandsNeedNone, Begins, IsGivenAt, CommandNeedsNone, EndsIn, AreOperandsOf, IsCommandAt}
use Rattle.tera_script.proofs.Fronts.{all_behind}
use Rattle.tera_script.proofs.Names.{name_found, name_only}
use Rattle.tera_script.proofs.Operands.{HasInto, into_found, into_only, into_ends_word}
use Rattle.tera_script.proofs.Utf8.{utf8_past_name}
use Rattle.tera_script.proofs.Values.{parts_of}
use Rattle.tera_script.proofs.Verbs.{same_verb, word_is_name}

-- ---- operands, and a name for what is found

module _ (row : Row) (bytes : List ℕ) where
  has_given : (command : Command) (h : EndsIn (SpellsOperands row) bytes command)
      → Begins (SpellsGiven (shape_of row.making)) bytes h.spells.given (h.spells.second ++ h.after)
  has_given command h = record {
    part = h.spells.first;
    spells = h.spells.spells;
    spelled = h.spelled ∙ ap (λ xs. xs ++ h.after) h.spells.whole ∙ append_assoc h.spells.first h.spells.second h.after;
  }

  has_into : (command : Command) (h : EndsIn (SpellsOperands row) bytes command) → HasInto row.keeps (h.spells.second ++ h.after) command.into
  has_into command h = record { part = h.spells.second; after = h.after; spells = h.spells.into; blanks = h.blanks; spelled = refl }

  ends : (command : Command) (h : EndsIn (SpellsOperands row) bytes command) → Stops is_word_byte (h.spells.second ++ h.after)
  ends command h = into_ends_word row.keeps (h.spells.second ++ h.after) command.into (has_into command h)

  pub no_given : IsGivenAt (shape_of row.making) bytes None → AreOperandsOf row bytes None
  no_given none = λ utf8 command h. none utf8 h.spells.given (h.spells.second ++ h.after) (has_given command h) (ends command h)

  module _ (given : Given (shape_of row.making)) (rest : List ℕ) (found : IsGivenAt (shape_of row.making) bytes (Some (given, rest))) where
    same_given : (command : Command) (h : EndsIn (SpellsOperands row) bytes command) → (given ≡ h.spells.given) × (rest ≡ h.spells.second ++ h.after)
    same_given command h =
        let parts = parts_of (shape_of row.making) in
        parts.one bytes given h.spells.given rest (h.spells.second ++ h.after) found.0 found.1 (has_given command h)
        (parts.ends h.spells.given (h.spells.second ++ h.after) (ends command h))

    pub no_into : into_in row.keeps rest ≡ None → AreOperandsOf row bytes None
    no_into e = λ utf8 command h.
        let named = ap (into_in row.keeps) (same_given command h).1
        ∙ into_only row.keeps (h.spells.second ++ h.after) command.into (has_into command h) in
        cc

    pub answered : (into : Option (List ℕ)) → into_in row.keeps rest ≡ Some into
        → AreOperandsOf row bytes (Some (record { request = requested row.making given; into = into }))
    answered into e =
        let named = into_found row.keeps rest into e in
        let begins = found.0 in
        record {
          part = begins.part ++ named.part;
          after = named.after;
          spells = record {
            given = given;
            first = begins.part;
            second = named.part;
            spells = begins.spells;
            request = refl;
            into = named.spells;
            whole = refl;
          };
          blanks = named.blanks;
          spelled = begins.spelled ∙ ap (λ xs. begins.part ++ xs) named.spelled ∙ sym (append_assoc begins.part named.part named.after);
        }

  same_command : (a b : Command) → EndsIn (SpellsOperands row) bytes a → EndsIn (SpellsOperands row) bytes b → a ≡ b
  same_command a b h g =
      let x = h.spells.second ++ h.after in
      let y = g.spells.second ++ g.after in
      let parts = parts_of (shape_of row.making) in
      let same = same_given h.spells.given x (has_given a h, parts.ends h.spells.given x (ends a h)) b g in
      let left = into_only row.keeps x a.into (has_into a h) in
      let right = into_only row.keeps y b.into (has_into b g) in
      let intos : a.into ≡ b.into = same_Some a.into b.into (sym left ∙ ap (into_in row.keeps) same.1 ∙ right) in
      let requests : a.request ≡ b.request = h.spells.request ∙ ap (requested row.making) same.0 ∙ sym g.spells.request in
      (λ i. record { request = requests i; into = intos i })

operands_end_name : (row : Row) (command : Command) (part after : List ℕ) → SpellsOperands row part command → Stops is_name_byte (part ++ after)
operands_end_name row command part after h =
    rw (h.whole, append_assoc h.first h.second after) ((parts_of (shape_of row.making)).opens h.first (h.second ++ after) h.given h.spells)

-- ---- the reader of a shape

asked : (m : Making) (g : Given (shape_of m)) → request_in m (shape_of m) g ≡ Some (requested m g)
asked (of_name f) g = refl
asked (of_names f) g = refl
asked (of_text f) g = refl
asked (of_bounds f) g = refl
asked (of_type f) g = refl
asked (of_literal f) g = refl
asked (of_map f) g = refl

module _ {known : Known} {s : Shape} (k : IsOfShape known s) where
  its_shape : s ≡ shape_of (row_of known.verb).making
  its_shape = sym k.shaped ∙ sym k.is.0

module _ {known : Known} {s : Shape} (k : IsOfShape known s) {bytes : List ℕ} where
  pub no_operands : IsGivenAt s bytes None → AreOperandsOf (row_of known.verb) bytes None
  no_operands none = no_given (row_of known.verb) bytes (subst (λ x. IsGivenAt x bytes None) (its_shape k) none)

  module _ {given : Given s} {rest : List ℕ} (found : IsGivenAt s bytes (Some (given, rest))) where
    pub nothing_behind : None ≡ into_in known.keeps rest → AreOperandsOf (row_of known.verb) bytes None
    nothing_behind n =
        let t = subst (λ x. (g : Given x) × IsGivenAt x bytes (Some (g, rest))) (its_shape k) (given, found) in
        no_into (row_of known.verb) bytes t.0 rest t.1 (ap (λ keeps. into_in keeps rest) k.is.1 ∙ sym n)

    pub command_made : {into : Option (List ℕ)} → Some into ≡ into_in known.keeps rest → (r : Option LentCommand)
        → option_map command_form r ≡ with_into (request_in (row_of known.verb).making s given) into
        → AreOperandsOf (row_of known.verb) bytes (option_map command_form r)
    command_made {into = into} n r h =
        let row = row_of known.verb in
        let t = subst (λ x. (g : Given x) × (with_into (request_in row.making x g) into ≡ with_into (request_in row.making s given) into)
        × IsGivenAt x bytes (Some (g, rest))) (its_shape k) (given, refl, found) in
        let is = h ∙ sym t.1 ∙ ap (λ request. with_into request into) (asked row.making t.0) in
        subst (AreOperandsOf row bytes) (sym is) (answered row bytes t.0 rest t.2 into (ap (λ keeps. into_in keeps rest) k.is.1 ∙ sym n))

-- ---- a call's word and the rest

record CommandParts (bytes : List ℕ) (command : Command) : Type 0 where
  verb : Verb
  rest : List ℕ
  named : name_at bytes ≡ Some (word_of verb, rest)
  behind : EndsIn (SpellsOperands (row_of verb)) rest command

command_parts : (bytes : List ℕ) (command : Command) → EndsIn SpellsCommand bytes command → CommandParts bytes command
command_parts bytes command h =
    let verb = h.spells.0 in
    let part = h.spells.1 in
    record {
      verb = verb;
      rest = part ++ h.after;
      named = rw (h.spelled, h.spells.3, append_assoc (word_of verb) part h.after)
          (name_only (word_of verb) (part ++ h.after) (word_is_name verb) (operands_end_name (row_of verb) command part h.after h.spells.2));
      behind = record { part = part; after = h.after; spells = h.spells.2; blanks = h.blanks; spelled = refl };
    }

pub command_none_name : {bytes : List ℕ} → name_at bytes ≡ None → IsCommandAt bytes None
command_none_name {bytes} e = λ utf8 command h. let found = (command_parts bytes command h).named in cc

module _ (bytes : List ℕ) {word rest : List ℕ} (n : name_at bytes ≡ Some (word, rest)) where
  parts_same : (command : Command) (parts : CommandParts bytes command) → (word ≡ word_of parts.verb) × (rest ≡ parts.rest)
  parts_same command parts = some_pair_parts word (word_of parts.verb) rest parts.rest (sym n ∙ parts.named)

  pub command_none_verb : IsVerbOf word None → IsCommandAt bytes None
  command_none_verb none = λ utf8 command h.
      let parts = command_parts bytes command h in
      none parts.verb (sym (parts_same command parts).0)

  pub command_answer : (verb : Verb) → word_of verb ≡ word → (answer : Option Command) → AreOperandsOf (row_of verb) rest answer → IsCommandAt bytes answer
  command_answer verb v (Some command) h =
      let name = name_found bytes word rest n in
      record {
        part = word ++ h.part;
        after = h.after;
        spells = (verb, h.part, h.spells, ap (λ w. w ++ h.part) (sym v));
        blanks = h.blanks;
        spelled = name.spelled ∙ ap (λ xs. word ++ xs) h.spelled ∙ sym (append_assoc word h.part h.after);
      }
  command_answer verb v None h = λ utf8 command e.
      let name = name_found bytes word rest n in
      let parts = command_parts bytes command e in
      let same = parts_same command parts in
      let verbs : parts.verb ≡ verb = same_verb parts.verb verb (sym same.0 ∙ sym v) in
      h (utf8_past_name word rest name.named (subst IsUtf8 name.spelled utf8)) command
      (subst (λ w. EndsIn (SpellsOperands (row_of w)) rest command) verbs
      (subst (λ xs. EndsIn (SpellsOperands (row_of parts.verb)) xs command) (sym same.1) parts.behind))

-- a command that brings nothing has light operands
lent_operands : (verb : Verb) (bytes : List ℕ) (request : Request) (given : Given (shape_of (row_of verb).making))
    → request ≡ requested (row_of verb).making given → BringsNothing request → HasNoEscape bytes → OperandsNeedNone (row_of verb).making bytes
lent_operands verb.Set bytes request given e h n = absurd (subst BringsNothing e h)
lent_operands verb.Extend bytes request given e h n = absurd (subst BringsNothing e h)
lent_operands verb.Path bytes request given e h n = inr n
lent_operands verb.Attr bytes request given e h n = inr n
lent_operands v bytes request given e h n = tt

bare_operands : (verb : Verb) (bytes : List ℕ) → IsBare bytes → OperandsNeedNone (row_of verb).making bytes
bare_operands verb.Set bytes h = h
bare_operands verb.Extend bytes h = h
bare_operands verb.Path bytes h = inl h
bare_operands verb.Attr bytes h = inl h
bare_operands v bytes h = tt

module _ (bytes : List ℕ) {word rest : List ℕ} (n : name_at bytes ≡ Some (word, rest)) where
  pub free_command : (verb : Verb) → word_of verb ≡ word → CommandNeedsNone bytes → OperandsNeedNone (row_of verb).making rest
  free_command verb v (inl bare) = bare_operands verb rest (all_behind _ word rest (subst IsBare (name_found bytes word rest n).spelled bare))
  free_command verb v (inr (free, (command, h, nothing))) =
      let parts = command_parts bytes command h in
      let same = some_pair_parts word (word_of parts.verb) rest parts.rest (sym n ∙ parts.named) in
      let verbs : parts.verb ≡ verb = same_verb parts.verb verb (sym same.0 ∙ sym v) in
      let behind = subst (λ w. EndsIn (SpellsOperands (row_of w)) parts.rest command) verbs parts.behind in
      lent_operands verb rest command.request behind.spells.given behind.spells.request nothing
      (all_behind _ word rest (subst HasNoEscape (name_found bytes word rest n).spelled free))

pub one_command_at : (bytes : List ℕ) (a b : Command) → EndsIn SpellsCommand bytes a → EndsIn SpellsCommand bytes b → a ≡ b
one_command_at bytes a b h g =
    let p = command_parts bytes a h in
    let q = command_parts bytes b g in
    let same = some_pair_parts (word_of p.verb) (word_of q.verb) p.rest q.rest (sym p.named ∙ q.named) in
    let verbs = same_verb q.verb p.verb (sym same.0) in
    same_command (row_of p.verb) p.rest a b p.behind
    (subst (λ w. EndsIn (SpellsOperands (row_of w)) p.rest b) verbs
    (subst (λ xs. EndsIn (SpellsOperands (row_of q.verb)) xs b) (sym same.1) q.behind))
