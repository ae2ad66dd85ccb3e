use Rattle.std.proofs.Common.{sym}
use Rattle.std.specs.Option.{option_map}
use Rattle.std.proofs.lemmas.Result.{IfOk-weaker}
use Rattle.tera_context.specs.Request.{command_form}
use Rattle.tera_script.proofs.Commands.{command_none_name, command_none_verb, command_answer, free_command}
use Rattle.tera_script.proofs.command.read_command.Goals as goal

pub returns-in_default-clause-command : goal.returns-in_default-clause-command
returns-in_default-clause-command c = command_none_name (sym c.in_default.ensures)

pub returns-in_default-verb_in-clause-command : goal.returns-in_default-verb_in-clause-command
returns-in_default-verb_in-clause-command c = command_none_verb c.args.bytes.now (sym c.in-Some.ensures) c.in_default-verb_in.ensures

pub returns-clause-command : goal.returns-clause-command
returns-clause-command c =
    let at = command_answer c.args.bytes.now (sym c.in-Some.ensures) c.in-Some-verb_in.known.verb c.in-Some-verb_in.ensures.0 in
    IfOk-weaker c.read_operands.result _ _ (λ answer. at (option_map command_form answer)) c.read_operands.ensures.operands

pub returns-clause-free : goal.returns-clause-free
returns-clause-free c = λ light.
    c.read_operands.ensures.free (free_command c.args.bytes.now (sym c.in-Some.ensures) c.in-Some-verb_in.known.verb c.in-Some-verb_in.ensures.0 light)
