use Rattle.std.proofs.Common.{[], ◌∷◌, refl, arith}
use lib.Utf8.{encode}
use Rattle.std.specs.Prelude.{codes}
use Rattle.tera_script.specs.Text.{itself, quote, character}
use Rattle.tera_script.specs.TextParts.{text_from}
use Rattle.tera_script.proofs.Texts.{spells_nothing}
use Rattle.tera_script.proofs.text_laws.worked_texts.Goals as goal

pub returns : goal.returns
unfolding encode text_from
returns c = record {
  escaped_quote = (itself 97 ∷ quote ∷ itself 98 ∷ [], search arith, refl, refl);
  two_bytes = (character (codes "e9") ∷ [], search arith, refl, refl);
  four_bytes = (character (codes "1F600") ∷ [], search arith, refl, refl);
  surrogate = λ text. spells_nothing (codes "\\u{d800}") text refl;
  no_digit = λ text. spells_nothing (codes "\\u{}") text refl;
  seven_digits = λ text. spells_nothing (codes "\\u{1234567}") text refl;
  unknown_escape = λ text. spells_nothing (codes "\\x") text refl;
}
