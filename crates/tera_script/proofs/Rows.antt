-- Worked lines: each part of a line is what its reader answers, and that is computed.
use Rattle.std.proofs.Common.{◌≡◌, ◌≢◌, ◌≤◌, ℕ, zero, suc, pos, true, false, cond, eqb, List, [], ◌∷◌, ◌++◌, Option, Some, None, refl, sym, ap, ◌∙◌, arith}
use Rattle.std.proofs.Common.{append-nil, append_assoc, lit<, lit≤, not}
use borrow.Author.Tests.{eqb_apart}
use Rattle.std.specs.List.{list_all}
use Rattle.std.specs.Prelude.{codes}
use Rattle.tera_meaning.specs.Form.{Form}
use Rattle.tera_meaning.specs.Integer.{i64, Integer, IntegerKind}
use Rattle.tera_meaning.specs.KeyMeaning.{KeyForm, truth_key, text_key, owned}
use Rattle.tera_meaning.specs.Request.{Command, set, asking}
use Rattle.tera_meaning.specs.Tree.{none, number, object, members, no_members, member, depth}
use Rattle.tera_script.specs.declared.verb.Verb.{Verb}
use Rattle.tera_script.specs.declared.verb.Verb.TheVariants.{Set}
use Rattle.tera_script.specs.declared.verb.Shape.TheVariants as shape
use Rattle.tera_script.specs.Line.{levels, HasNoEscape, Says, IsBad, AreNamed}
use Rattle.tera_script.specs.Literal.{IsPair, SpellsKey, SpellsTree}
use Rattle.tera_script.specs.Nested.{in_brackets, in_arrays, in_turns, in_both}
use Rattle.tera_script.specs.Number.{SpellsNumber}
use Rattle.tera_script.specs.Readers.{past, gap_at, name_at, operand_at, names_at, into_in, BeginsWithKey, BeginsWithPair, BeginsWithLiteral, IsPairAt, Ends}
use Rattle.tera_script.specs.Readers.{bounds_at, Stops, is_word_byte, IsLiteralAt, IsMapAt, IsQuotedAt, is_end_or_comment}
use Rattle.tera_script.specs.Text.{itself}
use Rattle.tera_script.specs.Verb.{Given, Making, of_name, of_names, shape_of, requested, row_of, word_of}
use Rattle.tera_script.specs.Word.{is_blank, AreBlanks}
use Rattle.tera_script.proofs.Commands.{no_given, no_into, answered, command_answer}
use Rattle.tera_script.proofs.Values.{name_part, both_at, value_parts, value_at, names_part, bounds_parts, bounds_part, type_found, source_found}
use Rattle.tera_script.proofs.Values.{quoted_parts, text_at, spelled_text}
use Rattle.tera_script.proofs.Lines.{bad_command, line_says}
use Rattle.tera_script.proofs.Literals.{IsOpenedAt, literal_found, only_at}
use Rattle.tera_script.proofs.Maps.{no_pairs_yet, no_more_pair}
use Rattle.tera_script.proofs.Openings.{opened, stops_end}
use Rattle.tera_script.proofs.Utf8.{all_ascii, ascii_utf8}
use Rattle.tera_script.specs.inner.Command.{IsGivenAt, AreOperandsOf}
use Rattle.std.specs.Option.{option_map}
use Rattle.std.specs.Cmp.Lexicographic.{slice_cmp, nat_list_cmp_total}
use Rattle.std.specs.FinMap.{get, insert, empty, get-insert, get-empty}
use Rattle.std.specs.Ordering.{nat_cmp, eq_by_cmp}
use Rattle.tera_meaning.specs.Conversion.{IntegerType, type_name}
use Rattle.tera_meaning.specs.Pairs.{key_form_order}
use Rattle.tera_meaning.specs.State.{State}
use Rattle.tera_script.specs.declared.bound.Bounds.{Bounds}
use Rattle.tera_script.proofs.Sources.{name_ties}

-- a call's word and what stands behind it
module _ (verb : Verb) {line behind : List ℕ} (n : name_at (past is_blank line) ≡ Some (word_of verb, behind)) where
  says : {command : Command} → all_ascii line ≡ true → AreOperandsOf (row_of verb) behind (Some command) → Says line command
  says {command} u h = line_says {line = line} refl refl (ascii_utf8 line u) (command_answer (past is_blank line) n verb refl (Some command) h)

  pub bad_call : is_end_or_comment (past is_blank line) ≡ false → AreOperandsOf (row_of verb) behind None → IsBad line
  bad_call e h = bad_command {line = line} refl refl e (command_answer (past is_blank line) n verb refl None h)

-- one name and two
abbrev pub names_in : (making : Making) → List ℕ → Option (Given (shape_of making) × List ℕ)
names_in (of_name f) bytes = operand_at bytes
names_in (of_names f) bytes = names_at bytes
names_in making bytes = None

names_given : (making : Making) (bytes : List ℕ) (given : Given (shape_of making)) (rest : List ℕ) → names_in making bytes ≡ Some (given, rest)
    → IsGivenAt (shape_of making) bytes (Some (given, rest))
unfolding operand_at names_at
names_given (of_name f) bytes given rest e = name_part bytes (sym e)
names_given (of_names f) bytes given rest e = names_part bytes (sym e)
names_given making bytes given rest e = absurd (cc)

module _ (verb : Verb) {line behind rest : List ℕ} {given : Given (shape_of (row_of verb).making)}
    (n : name_at (past is_blank line) ≡ Some (word_of verb, behind)) (e : names_in (row_of verb).making behind ≡ Some (given, rest))
  where
    pub says_named : {into : Option (List ℕ)} → all_ascii line ≡ true → into_in (row_of verb).keeps rest ≡ Some into
        → Says line (record { request = requested (row_of verb).making given; into = into })
    says_named {into} u i = says verb n u (answered (row_of verb) behind given rest (names_given (row_of verb).making behind given rest e) into i)

    pub bad_into : is_end_or_comment (past is_blank line) ≡ false → into_in (row_of verb).keeps rest ≡ None → IsBad line
    bad_into c i = bad_call verb n c (no_into (row_of verb) behind given rest (names_given (row_of verb).making behind given rest e) i)

-- operands of any shape
pub says_given : (verb : Verb) {line behind rest : List ℕ} {given : Given (shape_of (row_of verb).making)} {into : Option (List ℕ)}
    → name_at (past is_blank line) ≡ Some (word_of verb, behind) → IsGivenAt (shape_of (row_of verb).making) behind (Some (given, rest))
    → all_ascii line ≡ true → into_in (row_of verb).keeps rest ≡ Some into → Says line (record { request = requested (row_of verb).making given; into = into })
says_given verb {behind = behind} {rest} {given} {into} n found u i = says verb n u (answered (row_of verb) behind given rest found into i)

pub bounds_given : (behind : List ℕ) {name at_bounds rest : List ℕ} {bounds : Bounds} → operand_at behind ≡ Some (name, at_bounds)
    → bounds_at at_bounds ≡ Some (bounds, rest) → IsGivenAt shape.Bounds behind (Some ((name, bounds), rest))
bounds_given behind {name} {at_bounds} {rest} {bounds} o b = both_at bounds_parts behind (sym o) (Some (bounds, rest)) (bounds_part at_bounds (sym b))

pub type_given : (behind : List ℕ) (type : IntegerType) {name rest : List ℕ} → names_at behind ≡ Some ((type_name type, name), rest)
    → IsGivenAt shape.Type behind (Some ((type, name), rest))
type_given behind type e = type_found (names_part behind (sym e)) type refl

pub source_given : (behind : List ℕ) (pairs : List (KeyForm × Form)) (source : State) {literal rest : List ℕ} → gap_at behind ≡ Some literal
    → IsLiteralAt levels literal (Some (object (members pairs), rest)) → AreNamed pairs source → IsGivenAt shape.Map behind (Some (source, rest))
source_given behind pairs source {rest = rest} g h named = source_found (value_at behind g (Some (object (members pairs), rest)) h) (pairs, refl, named)

-- the state of one pair
pub one_named : (t : List ℕ) (value : Form) → AreNamed ((text_key (owned t), value) ∷ []) (insert empty t value)
one_named t value = (
  (refl, tt),
  λ name.
      get-insert nat_list_cmp_total empty t value name
      ∙ ap (λ same. cond same (Some value) (get {R = slice_cmp nat_cmp} empty name)) (name_ties (text_key (owned t)) t name refl)
      ∙ ap (λ held. cond (eq_by_cmp key_form_order (text_key (owned name)) (text_key (owned t))) (Some value) held) (get-empty _ name),
)

-- a name and a value
pub value_given : (behind : List ℕ) {name at_value literal : List ℕ} → operand_at behind ≡ Some (name, at_value) → gap_at at_value ≡ Some literal
    → (answer : Option (Form × List ℕ)) → IsLiteralAt levels literal answer
    → IsGivenAt shape.Literal behind (option_map (λ found. ((name, found.0), found.1)) answer)
value_given behind {name} {at_value} {literal} o g answer h = both_at value_parts behind (sym o) answer (value_at at_value g answer h)

-- a name and a text
pub text_given : (behind : List ℕ) {name at_text quoted : List ℕ} → operand_at behind ≡ Some (name, at_text) → gap_at at_text ≡ Some (34 ∷ quoted)
    → (t rest : List ℕ) → IsQuotedAt false quoted (Some (spelled_text t, rest)) → IsGivenAt shape.Text behind (Some ((name, t), rest))
text_given behind {at_text = at_text} {quoted} o g t rest h =
    both_at quoted_parts behind (sym o) (Some (t, rest)) (text_at at_text g quoted refl (Some (t, rest)) h)

blanks_only : (after : List ℕ) → AreBlanks after → into_in false after ≡ Some None
unfolding into_in
blanks_only after b = ap (λ blank. cond blank (Some None) None) b

pub says_literal : (after : List ℕ) {line behind name at_value literal : List ℕ} {value : Form} → name_at (past is_blank line) ≡ Some (codes "set", behind)
    → all_ascii line ≡ true → operand_at behind ≡ Some (name, at_value) → gap_at at_value ≡ Some literal → IsLiteralAt levels literal (Some (value, after))
    → AreBlanks after → Says line (asking (set name value))
says_literal after {line} {behind} {name} {at_value} {literal} {value} n u o g h b =
    says Set n u (answered (row_of Set) behind (name, value) after (value_given behind o g (Some (value, after)) h) None (blanks_only after b))

pub says_set : (after : List ℕ) {line behind name at_value literal : List ℕ} {value : Form} → name_at (past is_blank line) ≡ Some (codes "set", behind)
    → all_ascii line ≡ true → operand_at behind ≡ Some (name, at_value) → gap_at at_value ≡ Some literal
    → IsOpenedAt (opened literal) levels literal (Some (value, after)) → AreBlanks after → Says line (asking (set name value))
says_set after {line} {behind} {name} {at_value} {literal} {value} n u o g h b = says_literal after n u o g
    (literal_found levels literal (Some (value, after)) h) b

pub bad_literal : {literal : List ℕ} → gap_at (32 ∷ literal) ≡ Some literal → IsLiteralAt levels literal None → IsBad (codes "set a " ++ literal)
unfolding name_at operand_at gap_at
bad_literal {literal} g h =
    bad_call Set refl refl (no_given (row_of Set) (codes " a " ++ literal) (value_given _ {name = codes "a"} {at_value = 32 ∷ literal} refl g None h))

pub bad_value : {literal : List ℕ} → gap_at (32 ∷ literal) ≡ Some literal → IsOpenedAt (opened literal) levels literal None → IsBad (codes "set a " ++ literal)
bad_value {literal} g h = bad_literal g (literal_found levels literal None h)

-- a literal that nests too deep
pub too_deep : (xs : List ℕ) (tree : Form) → SpellsTree xs tree → Ends tree [] → suc levels ≤ depth tree → IsLiteralAt levels xs None
too_deep xs tree s ends h = λ utf8 w rest b d stops.
    let at : BeginsWithLiteral xs tree [] = record { literal = xs; spells = s; spelled = sym (append-nil xs) } in
    let same = only_at tree xs [] at ends w rest b (stops_end w rest stops) in
    omega (arith, ap depth same.0, d, h)

pub nested_spelled : (n : ℕ) (literal : List ℕ) (value : Form) → SpellsTree literal value → SpellsTree (in_brackets n literal) (in_arrays n value)
nested_spelled zero literal value s = s
nested_spelled (suc n) literal value s =
    let inner = in_brackets n literal in
    (inner, (inner, [], ([], inner, [], refl, nested_spelled n literal value s, refl, sym (append-nil inner)), refl, sym (append-nil inner)), refl)

pub turns_spelled : (n : ℕ) (literal : List ℕ) (value : Form) → SpellsTree literal value → SpellsTree (in_turns n literal) (in_both n value)
turns_spelled zero literal value s = s
turns_spelled (suc n) literal value s =
    let inner = in_turns n literal in
    let pair = codes "true:" ++ inner in
    let braces = 123 ∷ (pair ++ 125 ∷ []) in
    let value_is = turns_spelled n literal value s in
    let paired : IsPair (λ l. SpellsKey l (truth_key true)) (λ l. SpellsTree l (in_both n value)) pair =
    (codes "true", inner, ([], codes "true", [], refl, refl, refl, refl), ([], inner, [], refl, value_is, refl, sym (append-nil inner)), refl) in
    let map : SpellsTree braces (object (member (truth_key true) (in_both n value) no_members)) = (pair, (pair, [], paired, refl, sym (append-nil pair)), refl)
    in (
      braces,
      (braces, [], ([], braces, [], refl, map, refl, sym (append-nil braces)), refl, sym (append-nil braces)),
      ap (λ xs. codes "[{true:" ++ xs) (sym (append_assoc inner (125 ∷ []) (93 ∷ []))),
    )

-- a tree and a key by their literals, and a pair of a map by these
pub tree_at : (literal : List ℕ) {xs rest : List ℕ} {tree : Form} → SpellsTree literal tree → xs ≡ literal ++ rest → BeginsWithLiteral xs tree rest
tree_at literal s e = record { literal = literal; spells = s; spelled = e }

pub key_at : (literal : List ℕ) {xs rest : List ℕ} {key : KeyForm} → SpellsKey literal key → xs ≡ literal ++ rest → BeginsWithKey xs key rest
key_at literal s e = record { literal = literal; spells = s; spelled = e }

pub pair_at : {xs after next rest : List ℕ} {key : KeyForm} {tree : Form} → BeginsWithKey xs key after → past is_blank after ≡ 58 ∷ next
    → BeginsWithLiteral (past is_blank next) tree rest → BeginsWithPair xs (key, tree) rest
pair_at {xs} {after} {next} k e t = (after, next, k, e, t)

-- an item that is read, and the first pair of a map
pub none_read : (rest : List ℕ) → Stops is_word_byte rest → IsLiteralAt 63 (codes "none" ++ rest) (Some (none, rest))
none_read rest s = (none, refl, tree_at (codes "none") refl refl, s, lit≤ tt)

pub no_first_pair : {inside : List ℕ} → ((end : List ℕ) → past is_blank inside ≢ 125 ∷ end) → IsPairAt 63 (past is_blank inside) None → IsMapAt 64 inside None
no_first_pair opens = no_more_pair (no_pairs_yet refl refl opens) refl

abbrev pub one : IntegerKind → Integer
one kind = record { kind = kind; value = pos 1 }

pub one_spelled : SpellsNumber (codes "1") (one i64)
one_spelled = record { minus = false; digits = codes "1"; suffix = None; numeral = (lit< tt, (lit< tt, tt)); spelled = refl; value = refl; kind = lit< tt }

pub key_a : (after : List ℕ) → BeginsWithKey (codes "\"a\"" ++ after) (text_key (owned (codes "a"))) after
key_a after = key_at (codes "\"a\"") (codes "a", (itself 97 ∷ [], search arith, refl, refl), refl) refl

pub a_is_one : (rest : List ℕ) → Ends (number (one i64)) rest
    → IsPairAt 63 (codes "\"a\": 1" ++ rest) (Some (text_key (owned (codes "a")), number (one i64), rest))
a_is_one rest s = (number (one i64), refl, pair_at (key_a (codes ": 1" ++ rest)) refl (tree_at (codes "1") one_spelled refl), s, lit≤ tt)

pub apart : {b c : ℕ} {xs ys : List ℕ} → eqb b c ≡ false → b ∷ xs ≢ c ∷ ys
apart {b} {c} n e = eqb_apart b c n (cc)

-- a line that is computed to have no backslash
pub has_no_escape : (line : List ℕ) → list_all (λ b. not (eqb b 92)) line ≡ true → HasNoEscape line
has_no_escape [] h = tt
has_no_escape (b ∷ line) h = (λ is. cc, has_no_escape line (grind (arith, h)))
