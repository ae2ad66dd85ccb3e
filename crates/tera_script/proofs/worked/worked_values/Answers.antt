use Rattle.std.proofs.Common.{refl, [], ◌∷◌, arith, lit≤}
use Rattle.std.specs.Prelude.{codes}
use lib.Utf8.{encode}
use Rattle.tera_meaning.specs.Tree.{no_items, item, none, array}
use Rattle.tera_script.specs.Nested.{in_brackets, in_arrays}
use Rattle.tera_script.specs.Readers.{name_at, operand_at, gap_at, plain_at, value_in, number_in, unsigned_in, digits_at, suffix_in, integer_of, hex_at}
use Rattle.tera_script.specs.Text.{itself, character, line_feed}
use Rattle.tera_script.proofs.Rows.{says_literal, tree_at, says_set, nested_spelled}
use Rattle.tera_script.proofs.worked.worked_values.Goals as goal

pub returns : goal.returns
unfolding name_at operand_at gap_at plain_at value_in number_in unsigned_in digits_at suffix_in integer_of hex_at encode
returns c = record {
  zero = says_set _ refl refl refl refl refl refl;
  suffix = says_set _ refl refl refl refl refl refl;
  no_suffix = says_set _ refl refl refl refl refl refl;
  safe_text = says_set _ refl refl refl refl
      (codes "a\\u{e9}\\n", _, (itself 97 ∷ character (codes "e9") ∷ line_feed ∷ [], search arith, refl, refl), refl, refl) refl;
  byte_string = says_set _ refl refl refl refl refl refl;
  no_bytes = says_set _ refl refl refl refl refl refl;
  no_items = says_set _ refl refl refl refl (no_items, refl, refl, lit≤ tt) refl;
  blanks = says_set _ refl refl refl refl (
    item none (item (array no_items) no_items),
    refl,
    (_, tree_at (codes "none") refl refl, (_, _, refl, tree_at (codes "[ ]") (codes " ", refl, refl) refl, refl)),
    lit≤ tt,
  ) refl;
  deepest = says_literal _ refl refl refl refl
      (in_arrays 64 none, refl, tree_at (in_brackets 64 (codes "none")) (nested_spelled 64 (codes "none") none refl) refl, tt, lit≤ tt) refl;
}
