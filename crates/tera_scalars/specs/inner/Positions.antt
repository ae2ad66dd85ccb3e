-- Which bounds of a slice take a count of what is sliced.
use Rattle.std.specs.Prelude.{Bool, true, false, ℤ, pos, negsuc, Option, Some, None}

-- whether a bound counts from the other end than the one at which a step begins
abbrev pub counts_from_afar : ℤ → Option ℤ → Bool
counts_from_afar step None = false
counts_from_afar (pos s) (Some (pos bound)) = false
counts_from_afar (pos s) (Some (negsuc bound)) = true
counts_from_afar (negsuc s) (Some (pos bound)) = true
counts_from_afar (negsuc s) (Some (negsuc bound)) = false
