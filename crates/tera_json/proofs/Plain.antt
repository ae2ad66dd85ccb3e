-- Numbers that std holds are of some kind.
use Rattle.std.specs.Prelude.{ℤ, pos, negsuc, FitsSigned}
use Rattle.std.proofs.Common.{arith}
use Rattle.std.specs.Int.{w128}
use Rattle.tera_meaning.specs.Integer.{IsWide}

pub fits_wide : (z : ℤ) → FitsSigned w128 z → IsWide z
fits_wide (pos n) h = omega (arith, h.sfits)
fits_wide (negsuc n) h = h.sfits
