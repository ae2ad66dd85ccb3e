use Rattle.std.proofs.Common.{refl, inl, inr}
use Rattle.std.specs.Prelude.{codes}
use Rattle.tera_script.proofs.worked.worked_skips.Goals as goal

pub returns : goal.returns
returns c = record { nothing = inl refl; blanks = inl refl; comment = inr (codes "  ", _, refl, refl) }
