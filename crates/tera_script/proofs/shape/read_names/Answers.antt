use Rattle.std.proofs.Common.{ap, ◌∙◌}
use Rattle.tera_context.specs.Request.{name_of}
use Rattle.tera_script.specs.inner.Call.{with_into}
use Rattle.tera_script.proofs.Values.{names_part}
use Rattle.tera_script.proofs.Commands.{no_operands, nothing_behind, command_made}
use Rattle.tera_script.proofs.shape.read_names.Goals as goal

pub returns-in_err-left : goal.returns-in_err-left
returns-in_err-left c = rw (c.from_residual.ensures) (no_operands c.requires (names_part _ c.in_err-left.ensures.names))

pub returns-in_err-into : goal.returns-in_err-into
returns-in_err-into c =
    let found = names_part _ c.in_ok-left.ensures.names in
    rw (c.from_residual-in_err-into.ensures) (nothing_behind c.requires found c.in_err-into.ensures.into)

pub returns : goal.returns
returns c =
    let found = names_part _ c.in_ok-left.ensures.names in
    command_made c.requires found c.in_ok-into.ensures.into c.command_with.result
    (c.command_with.ensures ∙ ap (λ request. with_into request (name_of c.in_ok-into.into)) c.request_of_names.ensures)
