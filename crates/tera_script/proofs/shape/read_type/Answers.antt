use Rattle.std.proofs.Common.{ap, sym, subst, ◌∙◌}
use Rattle.tera_values.specs.Converted.{integer_type}
use Rattle.tera_context.specs.Request.{name_of}
use Rattle.tera_script.specs.inner.Call.{with_into}
use Rattle.tera_script.proofs.Values.{names_part, type_none, type_unknown, type_found}
use Rattle.tera_script.proofs.Commands.{no_operands, nothing_behind, command_made}
use Rattle.tera_script.proofs.shape.read_type.Goals as goal

pub returns-in_err-word : goal.returns-in_err-word
returns-in_err-word c = rw (c.from_residual.ensures) (no_operands c.requires (type_none (names_part _ c.in_err-word.ensures.names)))

pub returns-in_err-to : goal.returns-in_err-to
returns-in_err-to c = rw (c.from_residual-in_err-to.ensures)
    (no_operands c.requires (type_unknown (names_part _ c.in_ok-word.ensures.names) (rw (← c.as_bytes.ensures.value) c.in_err-to.ensures)))

pub returns-in_err-into : goal.returns-in_err-into
returns-in_err-into c =
    let found = type_found (names_part _ c.in_ok-word.ensures.names) (integer_type c.in_ok-to.to) (c.in_ok-to.ensures ∙ c.as_bytes.ensures.value) in
    rw (c.from_residual-in_err-into.ensures) (nothing_behind c.requires found c.in_err-into.ensures.into)

pub returns : goal.returns
returns c =
    let found = type_found (names_part _ c.in_ok-word.ensures.names) (integer_type c.in_ok-to.to) (c.in_ok-to.ensures ∙ c.as_bytes.ensures.value) in
    command_made c.requires found c.in_ok-into.ensures.into c.command_with.result
    (c.command_with.ensures ∙ ap (λ request. with_into request (name_of c.in_ok-into.into)) c.request_of_type.ensures)
