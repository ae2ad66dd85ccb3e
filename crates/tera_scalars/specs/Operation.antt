-- The operators of the code, and why two numbers have no result.
use Rattle.std.specs.Prelude.{ℤ, Result}
use Rattle.std.specs.Result.{result_map_both}
use Rattle.tera_report.specs.Refusal.{Refusal, Operator, plus, minus, times, remainder}
use Rattle.tera_report.specs.Refusal.{floor_division, power, divided_by_zero, exponent_outside_u32}
use Rattle.tera_report.specs.Refusal.{not_exact}
use Rattle.tera_scalars.specs.declared.operation.BinaryOp.{BinaryOp}
use Rattle.tera_scalars.specs.declared.operation.BinaryOp.TheVariants.{Add, Sub, Mul, Rem, FloorDiv}
use Rattle.tera_scalars.specs.declared.operation.BinaryOp.TheVariants.{Pow}
use Rattle.tera_scalars.specs.declared.operation.NoResult.{NoResult}
use Rattle.tera_scalars.specs.declared.operation.NoResult.TheVariants.{DividedByZero}
use Rattle.tera_scalars.specs.declared.operation.NoResult.TheVariants.{ExponentOutsideU32, NotExact}

abbrev pub operator_of : BinaryOp → Operator
operator_of Add = plus
operator_of Sub = minus
operator_of Mul = times
operator_of Rem = remainder
operator_of FloorDiv = floor_division
operator_of Pow = power

-- the refusal of two numbers that have no result
abbrev pub no_result : Operator → ℤ → ℤ → NoResult → Refusal
no_result operator left right DividedByZero = divided_by_zero
no_result operator left right ExponentOutsideU32 = exponent_outside_u32 right
no_result operator left right NotExact = not_exact left operator right

-- what the code answers of two numbers, with its refusal
abbrev pub told : Operator → ℤ → ℤ → Result ℤ NoResult → Result ℤ Refusal
told operator left right result = result_map_both (λ z. z) (no_result operator left right) result
