use Rattle.std.proofs.Common.{ap, ◌∙◌, Some, None}
use Rattle.tera_context.specs.Request.{name_of}
use Rattle.tera_script.specs.inner.Call.{with_into}
use Rattle.tera_script.proofs.Values.{no_name, both_at, value_parts}
use Rattle.tera_script.proofs.Bare.{all_past_operand}
use Rattle.tera_script.proofs.Commands.{no_operands, nothing_behind, command_made}
use Rattle.tera_script.proofs.shape.read_literal.Goals as goal

pub returns-in_default-clause-operands : goal.returns-in_default-clause-operands
returns-in_default-clause-operands c = no_operands c.requires (no_name value_parts c.in_default.ensures.operand)

pub returns-in_default-2-clause-operands : goal.returns-in_default-2-clause-operands
returns-in_default-2-clause-operands c =
    no_operands c.requires (both_at value_parts _ c.in-Some.ensures.operand None (rw (c.in_default-2.is) at c.in_ok-value.ensures.value))

pub returns-in_default-into_in-clause-operands : goal.returns-in_default-into_in-clause-operands
returns-in_default-into_in-clause-operands c =
    let found = both_at value_parts _ c.in-Some.ensures.operand (Some (c.in-Some-2.value, c.in-Some-2.rest.now))
    (rw (c.in-Some-2.is) at c.in_ok-value.ensures.value) in
    nothing_behind c.requires found c.in_default-into_in.ensures.into

pub returns-clause-operands : goal.returns-clause-operands
returns-clause-operands c =
    let found = both_at value_parts _ c.in-Some.ensures.operand (Some (c.in-Some-2.value, c.in-Some-2.rest.now))
    (rw (c.in-Some-2.is) at c.in_ok-value.ensures.value) in
    command_made c.requires found c.in-Some-into_in.ensures.into c.command_with.result
    (c.command_with.ensures ∙ ap (λ request. with_into request (name_of c.in-Some-into_in.into)) c.request_of_literal.ensures)

pub returns-in_err-value-clause-free : goal.returns-in_err-value-clause-free
returns-in_err-value-clause-free c = λ bare. absurd (cc (c.in_err-value.ensures.free (all_past_operand _ c.args.bytes.now c.in-Some.ensures.operand bare)))
