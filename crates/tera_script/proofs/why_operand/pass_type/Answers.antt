use Rattle.std.proofs.Common.{◌∙◌}
use Rattle.tera_values.specs.Converted.{integer_type}
use Rattle.tera_script.proofs.Values.{names_part, type_none, type_unknown, type_found}
use Rattle.tera_script.proofs.why_operand.pass_type.Goals as goal

pub returns-in_default : goal.returns-in_default
returns-in_default c = type_none (names_part c.args.bytes.now c.in_default.ensures.names)

pub returns-in-Some-type_in : goal.returns-in-Some-type_in
returns-in-Some-type_in c = (
  _,
  type_found (names_part c.args.bytes.now c.in-Some.ensures.names) (integer_type c.in-Some-type_in.field-0)
      (c.in-Some-type_in.ensures ∙ c.as_bytes.ensures.value),
)

pub returns-in-None : goal.returns-in-None
returns-in-None c = type_unknown (names_part c.args.bytes.now c.in-Some.ensures.names) (rw (← c.as_bytes.ensures.value) c.in-None.ensures)
