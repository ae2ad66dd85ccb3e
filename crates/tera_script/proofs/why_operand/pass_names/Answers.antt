use Rattle.tera_script.proofs.Values.{names_part}
use Rattle.tera_script.proofs.why_operand.pass_names.Goals as goal

pub returns-in-Some : goal.returns-in-Some
returns-in-Some c = (_, names_part c.args.bytes.now c.in-Some.ensures.names)

pub returns-in-None : goal.returns-in-None
returns-in-None c = names_part c.args.bytes.now c.in-None.ensures.names
