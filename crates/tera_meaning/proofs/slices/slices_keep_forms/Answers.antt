use Rattle.std.specs.Prelude.{pos, negsuc, None, Some, [], ◌∷◌, codes}
use Rattle.std.specs.Str.{chars}
use lib.Utf8.{encode}
use Rattle.tera_meaning.specs.Integer.{u64, i128}
use Rattle.tera_meaning.specs.Rows.{held, marked, normal}
use Rattle.tera_meaning.specs.Tree.{array, items}
use Rattle.tera_meaning.proofs.SliceLaws.{sliced_is}
use Rattle.tera_meaning.proofs.slices.slices_keep_forms.Goals as goal

pub returns : goal.returns
unfolding chars encode
returns c = record {
  array = sliced_is (array (items (held u64 1 ∷ marked (codes "a") ∷ held i128 2 ∷ []))) (Some (pos 1)) None None;
  text = sliced_is (marked (codes "abc")) (Some (negsuc 1)) None None;
  characters = sliced_is (normal (226 ∷ 130 ∷ 172 ∷ 195 ∷ 169 ∷ 97 ∷ [])) None None (Some (negsuc 1));
}
