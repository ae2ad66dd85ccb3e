use Rattle.std.proofs.Common.{[], Some, None, refl, lit≤}
use Rattle.std.specs.Prelude.{codes}
use Rattle.tera_meaning.specs.Integer.{i64}
use Rattle.tera_meaning.specs.KeyMeaning.{number_key}
use Rattle.tera_meaning.specs.Tree.{none}
use Rattle.tera_script.specs.Nested.{in_brackets, in_arrays, in_turns, in_both}
use Rattle.tera_script.specs.Readers.{gap_at, plain_key_at, key_in, number_in, unsigned_in, digits_at, suffix_in, integer_of}
use Rattle.tera_script.proofs.Keys.{plain_key_found}
use Rattle.tera_script.proofs.Maps.{no_pair_key, no_colon, no_pairs_yet, no_more_pair, no_pair_mark, no_pair_end, next_pair}
use Rattle.tera_script.proofs.Rows.{apart, bad_value, bad_literal, nested_spelled, turns_spelled, too_deep, no_first_pair, key_a, a_is_one, one}
use Rattle.tera_script.proofs.worked.worked_bad_maps.Goals as goal

pub returns : goal.returns
unfolding gap_at plain_key_at key_in number_in unsigned_in digits_at suffix_in integer_of
returns c =
    record {
      key_alone = bad_value refl (no_first_pair (λ end. apart refl)
          (no_colon (plain_key_found (codes "1}") (Some (number_key (one i64), codes "}")) (λ ys. apart refl) refl) (λ next. apart refl)));
      none_key = bad_value refl (no_first_pair (λ end. apart refl) (no_pair_key (plain_key_found (codes "none: 1}") None (λ ys. apart refl) refl)));
      safe_key = bad_value refl (no_first_pair (λ end. apart refl) (no_pair_key (plain_key_found (codes "s\"k\": 1}") None (λ ys. apart refl) refl)));
      no_colon = bad_value refl (no_first_pair (λ end. apart refl) (no_colon (key_a (codes " 1}"), tt) (λ next. apart refl)));
      last_comma = bad_value refl (no_more_pair (next_pair (no_pairs_yet {deep = 63} refl refl (λ end. apart refl)) refl (a_is_one (codes ",}") refl) refl refl
          refl)
          refl (no_pair_key (plain_key_found (codes "}") None (λ ys. apart refl) refl)));
      no_comma = bad_value refl (no_pair_mark (no_pairs_yet {deep = 63} refl refl (λ end. apart refl)) refl (a_is_one (codes " 2: 3}") refl) (λ end. apart refl)
          (λ end. apart refl));
      no_brace = bad_value refl (no_pair_end (no_pairs_yet {deep = 63} refl refl (λ end. apart refl)) refl (a_is_one [] tt) refl);
      too_deep = bad_literal refl (too_deep (in_brackets 1 (in_turns 32 (codes "none"))) (in_arrays 1 (in_both 32 none))
          (nested_spelled 1 (in_turns 32 (codes "none")) (in_both 32 none) (turns_spelled 32 (codes "none") none refl)) tt (lit≤ tt));
    }
