use Rattle.std.proofs.Common.{[], None, refl, lit≤}
use Rattle.std.specs.Prelude.{codes}
use Rattle.tera_meaning.specs.Tree.{none}
use Rattle.tera_script.specs.Nested.{in_brackets, in_arrays}
use Rattle.tera_script.specs.Readers.{gap_at, hex_at, plain_at, value_in, number_in, unsigned_in, digits_at}
use Rattle.tera_script.proofs.Arrays.{no_items_yet, no_item, no_item_mark, no_item_end, next_item}
use Rattle.tera_script.proofs.Literals.{literal_found}
use Rattle.tera_script.proofs.Rows.{apart, bad_value, bad_literal, nested_spelled, none_read, too_deep}
use Rattle.tera_script.proofs.worked.worked_bad_values.Goals as goal

pub returns : goal.returns
unfolding gap_at hex_at plain_at value_in number_in unsigned_in digits_at
returns c =
    record {
      odd_digits = bad_value refl refl;
      no_digit = bad_value refl refl;
      no_quote = bad_value refl refl;
      last_comma = bad_value refl (no_item (next_item (no_items_yet {deep = 63} refl refl (λ end. apart refl)) refl (none_read (codes ",]") refl) refl refl
          refl) refl
          (literal_found 63 (codes "]") None refl));
      no_first = bad_value refl (no_item (no_items_yet {deep = 63} refl refl (λ end. apart refl)) refl (literal_found 63 (codes ",none]") None refl));
      no_comma = bad_value refl (no_item_mark (no_items_yet {deep = 63} refl refl (λ end. apart refl)) refl (none_read (codes " none]") refl)
          (λ end. apart refl)
          (λ end. apart refl));
      no_bracket = bad_value refl (no_item_end (no_items_yet {deep = 63} refl refl (λ end. apart refl)) refl (none_read [] tt) refl);
      too_deep = bad_literal refl (too_deep (in_brackets 65 (codes "none")) (in_arrays 65 none) (nested_spelled 65 (codes "none") none refl) tt (lit≤ tt));
    }
