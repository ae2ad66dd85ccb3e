-- A line that sets a name to what is written, and which bytes it has.
use Rattle.std.proofs.Common.{◌≡◌, ◌<◌, ◌≤◌, ℕ, Bool, true, false, not, ◌&&◌, ◌||◌, ◌==◌, nat_lt, List, [], ◌∷◌, ◌++◌, IsUtf8, None, refl, sym, subst}
use Rattle.std.proofs.Common.{◌∙◌, arith, append-nil, lit≤}
use lib.Utf8.{scalar, encode, low_scalar}
use Rattle.std.specs.Prelude.{codes}
use Rattle.std.specs.Char.{is_ascii}
use Rattle.std.specs.List.{list_all}
use Rattle.std.proofs.lemmas.Bool.Decides.{nat_tests}
use Rattle.std.proofs.lemmas.List.Folds.{list_all-append}
use Rattle.std.proofs.lemmas.Str.{encode_ascii, IsUtf8-append, IsUtf8-nil, IsUtf8-encode}
use Rattle.tera_meaning.specs.Form.{Form}
use Rattle.tera_meaning.specs.Request.{set, asking}
use Rattle.tera_meaning.specs.Tree.{depth}
use Rattle.tera_meaning.specs.WellMade.{IsWellMade}
use Rattle.tera_report.specs.Quoted.{is_control}
use Rattle.tera_script.specs.Line.{Says, levels, SpellsOperand, SpellsOperands, SpellsValue}
use Rattle.tera_script.specs.Verb.{row_of}
use Rattle.tera_script.specs.Word.{IsName}
use Rattle.tera_script.specs.Written.{literal_of, owned_form, is_numbered}
use Rattle.tera_script.specs.declared.verb.Verb.TheVariants as verb
use Rattle.tera_script.proofs.Utf8.{name_utf8, ascii_utf8}
use Rattle.tera_script.proofs.Written.{tree_spelled, same_value, same_depth}
use Rattle.tera_script.proofs.WrittenBytes.{Parts, literal_has}

one_ascii : (b : ℕ) → b < 128 → IsUtf8 (b ∷ [])
one_ascii b small = subst IsUtf8 (encode_ascii b small) (IsUtf8-encode b (low_scalar b (omega arith)))

utf8_parts : (ascii : Bool) → Parts ascii IsUtf8
utf8_parts ascii = record {
  nothing = IsUtf8-nil;
  together = IsUtf8-append;
  printing = λ b l h. one_ascii b (omega arith);
  own = λ c ok _. IsUtf8-encode c ok;
}

set_utf8 : IsUtf8 (codes "set ")
set_utf8 = ascii_utf8 (codes "set ") refl

pub line_says : (ascii : Bool) (name : List ℕ) (x : Form) → IsName name → IsWellMade x → depth x ≤ levels
    → Says (codes "set " ++ (name ++ (codes " " ++ literal_of ascii x))) (asking (set name (owned_form x)))
line_says ascii name x named made deep =
    let literal = literal_of ascii x in
    let line = codes "set " ++ (name ++ (codes " " ++ literal)) in
    let operands = 32 ∷ (name ++ 32 ∷ literal) in
    let operand : SpellsOperand (32 ∷ name) name = (32 ∷ [], (omega arith, refl), named, refl) in
    let within : depth (owned_form x) ≤ levels = omega (arith, same_depth x, deep) in
    let value : SpellsValue (32 ∷ literal) (owned_form x) =
    (32 ∷ [], literal, owned_form x, (omega arith, refl), tree_spelled ascii x made, within, sym (same_value x made), refl) in
    let utf8 = IsUtf8-append (codes "set ") (name ++ (codes " " ++ literal)) set_utf8
    (IsUtf8-append name (codes " " ++ literal) (name_utf8 name named)
    (IsUtf8-append (codes " ") literal (one_ascii 32 (omega arith)) (literal_has ascii IsUtf8 (utf8_parts ascii) x made))) in
    let given : SpellsOperands (row_of verb.Set) operands (asking (set name (owned_form x))) = record {
      given = (name, owned_form x);
      first = operands;
      second = [];
      spells = (32 ∷ name, 32 ∷ literal, operand, value, refl);
      request = refl;
      into = refl;
      whole = sym (append-nil operands);
    } in
    record {
      utf8 = utf8;
      before = [];
      call = line;
      after = [];
      padded = (refl, refl);
      spelled = (verb.Set, operands, given, refl);
      whole = sym (append-nil line);
    }

-- no control byte is written
shown_own : (ascii : Bool) (c : ℕ) → is_numbered ascii c ≡ false → list_all (λ b. not (is_control b)) (encode c) ≡ true
unfolding encode
shown_own ascii c e = grind (arith, nat_tests)

shown_parts : (ascii : Bool) → Parts ascii (λ l. list_all (λ b. not (is_control b)) l ≡ true)
shown_parts ascii = record {
  nothing = refl;
  together = λ a b p q. list_all-append (λ b. not (is_control b)) a b ∙ (λ i. p i && q i);
  printing = λ b l h. grind (arith, nat_tests);
  own = λ c _ e. shown_own ascii c e;
}

pub no_control : (ascii : Bool) (x : Form) → IsWellMade x → list_all (λ b. not (is_control b)) (literal_of ascii x) ≡ true
no_control ascii x made = literal_has ascii (λ l. list_all (λ b. not (is_control b)) l ≡ true) (shown_parts ascii) x made

ascii_parts : Parts true (λ l. list_all is_ascii l ≡ true)
ascii_parts = record {
  nothing = refl;
  together = λ a b p q. list_all-append is_ascii a b ∙ (λ i. p i && q i);
  printing = λ b l h. grind (arith, nat_tests);
  own = λ c _ e.
      let low : c < 128 = grind (arith, nat_tests) in
      subst (λ l. list_all is_ascii l ≡ true) (sym (encode_ascii c low)) (grind (arith, nat_tests));
}

pub only_ascii : (x : Form) → IsWellMade x → list_all is_ascii (literal_of true x) ≡ true
only_ascii x made = literal_has true (λ l. list_all is_ascii l ≡ true) ascii_parts x made
