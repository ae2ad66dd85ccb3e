use Rattle.std.proofs.Common.{refl, [], ◌∷◌, true, arith, lit≤}
use Rattle.std.specs.Prelude.{codes}
use Rattle.tera_meaning.specs.Integer.{i64, u64}
use Rattle.tera_meaning.specs.KeyMeaning.{truth_key, number_key, text_key, owned}
use Rattle.tera_meaning.specs.Tree.{no_items, none, truth, number, array, no_members, member}
use Rattle.tera_script.specs.Nested.{in_turns, in_both}
use Rattle.tera_script.specs.Readers.{name_at, operand_at, gap_at, number_in, unsigned_in, digits_at, suffix_in, integer_of}
use Rattle.tera_script.specs.Text.{itself}
use Rattle.tera_script.proofs.Integers.{number_found}
use Rattle.tera_script.proofs.Rows.{says_literal, says_set, tree_at, key_at, pair_at, turns_spelled, one, one_spelled}
use Rattle.tera_script.proofs.worked.worked_maps.Goals as goal

pub returns : goal.returns
unfolding name_at operand_at gap_at number_in unsigned_in digits_at suffix_in integer_of
returns c = record {
  no_pairs = says_set _ refl refl refl refl (no_members, refl, refl, lit≤ tt) refl;
  pairs = says_set _ refl refl refl refl (
    member (text_key (owned (codes "b"))) (number (one u64)) (member (truth_key true) (array no_items) no_members),
    refl,
    (
      _,
      pair_at (key_at (codes "\"b\"") (codes "b", (itself 98 ∷ [], search arith, refl, refl), refl) refl) refl
          (tree_at (codes "1u64") (number_found (codes "1u64") (one u64) refl) refl),
      (_, _, refl, pair_at (key_at (codes "true") refl refl) refl (tree_at (codes "[ ]") (codes " ", refl, refl) refl), refl),
    ),
    lit≤ tt,
  ) refl;
  equal_keys = says_set _ refl refl refl refl (
    member (number_key (one u64)) none (member (number_key (one i64)) (truth true) no_members),
    refl,
    (
      _,
      pair_at (key_at (codes "1u64") (number_found (codes "1u64") (one u64) refl) refl) refl (tree_at (codes "none") refl refl),
      (_, _, refl, pair_at (key_at (codes "1") one_spelled refl) refl (tree_at (codes "true") refl refl), refl),
    ),
    lit≤ tt,
  ) refl;
  places = says_set _ refl refl refl refl (
    member (truth_key true) none (member (number_key (one i64)) (truth true) (member (truth_key true) (array no_items) no_members)),
    refl,
    (
      _,
      pair_at (key_at (codes "true") refl refl) refl (tree_at (codes "none") refl refl),
      (
        _,
        _,
        refl,
        pair_at (key_at (codes "1") one_spelled refl) refl (tree_at (codes "true") refl refl),
        (_, _, refl, pair_at (key_at (codes "true") refl refl) refl (tree_at (codes "[]") ([], refl, refl) refl), refl),
      ),
    ),
    lit≤ tt,
  ) refl;
  deepest = says_literal _ refl refl refl refl
      (in_both 32 none, refl, tree_at (in_turns 32 (codes "none")) (turns_spelled 32 (codes "none") none refl) refl, tt, lit≤ tt) refl;
}
