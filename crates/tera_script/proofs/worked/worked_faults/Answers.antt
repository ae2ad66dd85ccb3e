use Rattle.std.proofs.Common.{refl, None, arith}
use Rattle.std.specs.Prelude.{codes}
use lib.Utf8.{encode}
use Rattle.std.specs.Str.{is_utf8, chars}
use Rattle.std.proofs.lemmas.Str.{is_utf8-from_IsUtf8}
use Rattle.std.proofs.lemmas.Bool.{false≢true}
use Rattle.tera_script.specs.TextParts.{text_from}
use Rattle.tera_script.specs.Verb.{row_of, word_of}
use Rattle.tera_script.specs.inner.Call.{IsLike}
use Rattle.tera_script.specs.Readers.{name_at, operand_at, gap_at, names_at, plain_at, value_in, number_in, unsigned_in, digits_at, suffix_in, integer_of}
use Rattle.tera_script.specs.declared.verb.Verb.{Verb}
use Rattle.tera_script.specs.declared.verb.Verb.TheVariants.{Set, Equal}
use Rattle.tera_script.proofs.Commands.{command_none_verb, no_given}
use Rattle.tera_script.proofs.Values.{no_name, names_part, value_parts}
use Rattle.tera_script.proofs.Texts.{no_text}
use Rattle.tera_script.proofs.Lines.{bad_command, bad_utf8}
use Rattle.tera_script.proofs.Verbs.{no_verb}
use Rattle.tera_script.proofs.Rows.{bad_call, bad_value}
use Rattle.tera_script.proofs.worked.worked_faults.Goals as goal

-- words that are no verb's
no_frob : (v : Verb) → IsLike (word_of v) 4 102 114 → ⊥
no_frob Set like = omega arith
no_frob v like = omega arith

no_eqa : (v : Verb) → IsLike (word_of v) 3 101 113 → ⊥
no_eqa Set like = omega arith
no_eqa v like = omega arith

pub returns : goal.returns
unfolding name_at operand_at gap_at names_at plain_at value_in number_in unsigned_in digits_at suffix_in integer_of is_utf8 chars encode text_from
returns c = record {
  word = bad_command refl refl refl (command_none_verb _ {word = codes "frob"} refl (no_verb {word = codes "frob"} {b = 102} {c = 114} refl refl no_frob));
  longer_word = bad_command refl refl refl (command_none_verb _ {word = codes "eqa"} refl (no_verb {word = codes "eqa"} {b = 101} {c = 113} refl refl no_eqa));
  one_operand = bad_call Equal refl refl (no_given (row_of Equal) _ (names_part (codes " a") {answer = None} refl));
  name = bad_call Set refl refl (no_given (row_of Set) _ (no_name value_parts {bytes = codes " 1a none"} refl));
  large = bad_value refl refl;
  minus = bad_value refl refl;
  escape = bad_value refl (λ t inner rest u s e. no_text {bytes = codes "\\x\""} refl (inner, rest, s, e, refl));
  not_utf8 = bad_utf8 refl refl refl (λ u. let yes = is_utf8-from_IsUtf8 _ u in absurd (false≢true yes));
}
