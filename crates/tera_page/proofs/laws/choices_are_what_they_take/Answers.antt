-- By the branch that is taken, and what stands behind it.
use Rattle.std.specs.Prelude.{cond}
use Rattle.std.specs.Result.{result_unwrap_or}
use Rattle.std.proofs.Common.{◌∙◌, ap}
use Rattle.tera.specs.Arithmetic.{each_ok}
use Rattle.tera_page.proofs.Followed.{taken}
use Rattle.tera_page.proofs.laws.choices_are_what_they_take.Goals as goal
use Rattle.tera_page.specs.Rendering.{all_after, all_pieces, joined, on, placed}
use Rattle.tera_page.specs.Values.{is_true}

pub returns : goal.returns
returns c test chosen otherwise rest state v is =
    ap (λ r. joined (on (placed test r) (λ w. cond (is_true w) (all_pieces chosen state) (all_pieces otherwise state)))
    (all_pieces rest (result_unwrap_or (each_ok (λ w. cond (is_true w) (all_after chosen state) (all_after otherwise state)) r) state))) is
    ∙ taken (is_true v) chosen otherwise rest state
