use Rattle.std.proofs.Common.{ap, ◌∙◌}
use Rattle.tera_context.specs.Request.{name_of}
use Rattle.tera_script.specs.inner.Call.{with_into}
use Rattle.tera_script.proofs.Values.{source_none, source_at, source_found}
use Rattle.tera_script.proofs.Bare.{value_is_no_map}
use Rattle.tera_script.proofs.Commands.{no_operands, nothing_behind, command_made}
use Rattle.tera_script.proofs.shape.read_map.Goals as goal

pub returns-in_default-clause-operands : goal.returns-in_default-clause-operands
returns-in_default-clause-operands c = no_operands c.requires (source_none (rw (c.in_default.is) at c.in_ok-value.ensures.value))

pub returns-in_default-2-clause-operands : goal.returns-in_default-2-clause-operands
returns-in_default-2-clause-operands c =
    no_operands c.requires (source_at (rw (c.in-Some.is) at c.in_ok-value.ensures.value) (rw (c.in_default-2.is) at c.in_ok-source.ensures.source))

pub returns-in_default-into_in-clause-operands : goal.returns-in_default-into_in-clause-operands
returns-in_default-into_in-clause-operands c =
    let found = source_found (rw (c.in-Some.is) at c.in_ok-value.ensures.value) (rw (c.in-Some-2.is) at c.in_ok-source.ensures.source) in
    nothing_behind c.requires found c.in_default-into_in.ensures.into

pub returns-clause-operands : goal.returns-clause-operands
returns-clause-operands c =
    let found = source_found (rw (c.in-Some.is) at c.in_ok-value.ensures.value) (rw (c.in-Some-2.is) at c.in_ok-source.ensures.source) in
    command_made c.requires found c.in-Some-into_in.ensures.into c.command_with.result
    (c.command_with.ensures ∙ ap (λ request. with_into request (name_of c.in-Some-into_in.into)) c.request_of_map.ensures)

pub returns-in_err-value-clause-free : goal.returns-in_err-value-clause-free
returns-in_err-value-clause-free c = λ bare. absurd (cc (c.in_err-value.ensures.free bare))

pub returns-in_err-source-clause-free : goal.returns-in_err-source-clause-free
returns-in_err-source-clause-free c = λ bare.
    let found = rw (c.in-Some.is) at c.in_ok-value.ensures.value in
    absurd (cc (c.in_err-source.ensures.free (value_is_no_map found bare)))
