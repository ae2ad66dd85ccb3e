use Rattle.tera_script.proofs.Values.{bounds_part}
use Rattle.tera_script.proofs.why_operand.pass_bounds.Goals as goal

pub returns-in-Some : goal.returns-in-Some
returns-in-Some c = (_, bounds_part c.args.bytes.now c.in-Some.ensures)

pub returns-in-None : goal.returns-in-None
returns-in-None c = bounds_part c.args.bytes.now c.in-None.ensures
