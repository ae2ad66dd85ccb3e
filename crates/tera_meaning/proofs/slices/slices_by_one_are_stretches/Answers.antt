use Rattle.std.specs.Prelude.{pos, negsuc, None, Some}
use Rattle.tera_meaning.proofs.StretchLemmas.{slice_is_stretch, array_stretch, text_stretch}
use Rattle.tera_meaning.proofs.slices.slices_by_one_are_stretches.Goals as goal

pub returns : goal.returns
returns c = record {
  items = slice_is_stretch;
  array = array_stretch;
  text = text_stretch;
  last = λ xs n. slice_is_stretch xs (Some (negsuc n)) None;
  behind = λ xs n. slice_is_stretch xs (Some (pos n)) None;
  first = λ xs n. slice_is_stretch xs None (Some (pos n));
  between = λ xs m n. slice_is_stretch xs (Some (pos m)) (Some (pos n));
  minus_zero = λ xs. slice_is_stretch xs (Some (pos 0)) None;
}
