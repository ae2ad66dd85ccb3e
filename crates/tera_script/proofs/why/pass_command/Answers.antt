use Rattle.std.proofs.Common.{sym, Some, None}
use Rattle.tera_script.proofs.Commands.{command_none_name, command_none_verb, command_answer}
use Rattle.tera_script.proofs.PassedCommands.{no_operands_passed, command_passed}
use Rattle.tera_script.proofs.why.pass_command.Goals as goal

pub returns-in_default : goal.returns-in_default
returns-in_default c = command_none_name (sym c.in_default.ensures)

pub returns-in_default-verb_in : goal.returns-in_default-verb_in
returns-in_default-verb_in c = command_none_verb c.args.bytes.now (sym c.in-Some.ensures) c.in_default-verb_in.ensures

pub returns-in-Ok : goal.returns-in-Ok
returns-in-Ok c =
    let known = c.in-Some-verb_in.known in
    command_passed c.args.bytes.now (sym c.in-Some.ensures) known c.in-Some-verb_in.ensures.0 c.in-Some-verb_in.ensures.1 c.in-Ok.rest.now
    c.in-Ok.ensures.0 c.in-Ok.ensures.1
    c.pass_into.result c.pass_into.ensures

pub returns-in-Err : goal.returns-in-Err
returns-in-Err c =
    let known = c.in-Some-verb_in.known in
    command_answer c.args.bytes.now (sym c.in-Some.ensures) known.verb c.in-Some-verb_in.ensures.0 None
    (no_operands_passed known c.in-Some-verb_in.ensures.1 c.in-Some.operands.now c.in-Err.ensures)
