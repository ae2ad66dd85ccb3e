-- The number that the code's `Number` is.
use Rattle.std.specs.Prelude.{ℤ}
use Rattle.tera_scalars.specs.declared.number.Number.{Number}
use Rattle.tera_scalars.specs.declared.number.Number.TheVariants.{Integer}

abbrev pub number_value : Number → ℤ
number_value (Integer z) = z
