-- By the definition, on the pieces that are left.
use Rattle.std.specs.Prelude.{[], Ok, refl}
use Rattle.std.specs.FinMap.{insert}
use Rattle.std.specs.Result.{result_unwrap_or}
use Rattle.std.proofs.Common.{◌∙◌, ap}
use Rattle.tera.specs.Arithmetic.{each_ok}
use Rattle.tera_page.proofs.Followed.{alone}
use Rattle.tera_page.proofs.laws.set_names_stand_for_their_values.Goals as goal
use Rattle.tera_page.specs.Rendering.{all_pieces, joined, on, placed}

pub returns : goal.returns
returns c = record {
  stands = λ name value rest state v is.
      ap (λ r. joined (on (placed value r) (λ w. Ok [])) (all_pieces rest (result_unwrap_or (each_ok (insert state name) r) state))) is
      ∙ alone (all_pieces rest (insert state name v));
  ends = λ bound over body otherwise rest state. refl;
}
