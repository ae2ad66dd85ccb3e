-- What the refusals of arithmetic tell.
use Rattle.std.specs.Prelude.{◌≡◌, pos, Some, ⊤}
use Rattle.tera_scalars.specs.Operation.{operator_of, no_result}
use Rattle.tera_meaning.specs.Form.{Form}
use Rattle.tera_meaning.specs.Read.{number_in}
use Rattle.tera_report.specs.Refusal.{Refusal, not_a_number, operand_outside_i128}
use Rattle.tera_scalars.specs.declared.operation.BinaryOp.{BinaryOp}
use Rattle.tera_values.specs.declared.number.NotComputed.{NotComputed}
use Rattle.tera_values.specs.declared.number.NotComputed.TheVariants as not_computed

-- the refusal that says why nothing is computed
abbrev pub refusal_told : NotComputed → Refusal
refusal_told (not_computed.NotANumber kind) = not_a_number kind.now
refusal_told (not_computed.OperandOutsideI128 operand) = operand_outside_i128 (pos operand)
refusal_told (not_computed.NoResult op left right why) = no_result (operator_of op) left right why

-- where two numbers have no result, the operator and the numbers told are those of the call
abbrev pub TellsCall : BinaryOp → Form → Form → NotComputed → Type 0
TellsCall op v w (not_computed.NotANumber kind) = ⊤
TellsCall op v w (not_computed.OperandOutsideI128 operand) = ⊤
TellsCall op v w (not_computed.NoResult told left right why) =
    (told ≡ op) × (number_in v ≡ Some left) × (number_in w ≡ Some right)
