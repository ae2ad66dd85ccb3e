use Rattle.std.proofs.Common.{sym}
use Rattle.tera_script.proofs.Passed.{value_passed}
use Rattle.tera_script.proofs.Values.{no_gap}
use Rattle.tera_script.proofs.why_operand.pass_value.Goals as goal

pub returns-in-Some : goal.returns-in-Some
returns-in-Some c = value_passed c.args.bytes.now (sym c.in-Some.ensures) c.pass_literal.result c.pass_literal.ensures

pub returns-in-None : goal.returns-in-None
returns-in-None c = no_gap (sym c.in-None.ensures)
