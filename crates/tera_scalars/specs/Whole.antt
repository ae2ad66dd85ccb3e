-- Whole numbers of any kind, as the code compares them.
use Rattle.std.specs.Prelude.{pos, ℤ}
use Rattle.tera_scalars.specs.declared.whole.Whole.{Whole}
use Rattle.tera_scalars.specs.declared.whole.Whole.TheVariants.{Signed, Unsigned}

abbrev pub whole_value : Whole → ℤ
whole_value (Signed z) = z
whole_value (Unsigned n) = pos n
