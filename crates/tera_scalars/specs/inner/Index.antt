-- Indices as the code counts them.
use Rattle.std.specs.Prelude.{ℤ, pos, negsuc}
use Rattle.tera_scalars.specs.declared.index.Index.{Index}
use Rattle.tera_scalars.specs.declared.index.Index.TheVariants.{FromFront, FromBack}

-- the number that an index is: those behind the last part are below 0, which is -1
abbrev pub index_value : Index → ℤ
index_value (FromFront n) = pos n
index_value (FromBack n) = negsuc n
