use Rattle.std.proofs.Common.{ap, ◌∙◌, Some, None}
use Rattle.tera_context.specs.Request.{name_of}
use Rattle.tera_script.specs.inner.Call.{with_into}
use Rattle.tera_script.proofs.Values.{no_name, both_at, bounds_parts, bounds_part}
use Rattle.tera_script.proofs.Commands.{no_operands, nothing_behind, command_made}
use Rattle.tera_script.proofs.shape.read_bounds.Goals as goal

pub returns-in_err-name : goal.returns-in_err-name
returns-in_err-name c = rw (c.from_residual.ensures) (no_operands c.requires (no_name bounds_parts c.in_err-name.ensures.operand))

pub returns-in_err-bounds : goal.returns-in_err-bounds
returns-in_err-bounds c = rw (c.from_residual-in_err-bounds.ensures)
    (no_operands c.requires (both_at bounds_parts _ c.in_ok-name.ensures.operand None (bounds_part _ c.in_err-bounds.ensures)))

pub returns-in_err-into : goal.returns-in_err-into
returns-in_err-into c =
    let found = both_at bounds_parts _ c.in_ok-name.ensures.operand (Some (c.in_ok-bounds.bounds, c.in_ok-bounds.rest.now))
    (bounds_part _ c.in_ok-bounds.ensures) in
    rw (c.from_residual-in_err-into.ensures) (nothing_behind c.requires found c.in_err-into.ensures.into)

pub returns : goal.returns
returns c =
    let found = both_at bounds_parts _ c.in_ok-name.ensures.operand (Some (c.in_ok-bounds.bounds, c.in_ok-bounds.rest.now))
    (bounds_part _ c.in_ok-bounds.ensures) in
    command_made c.requires found c.in_ok-into.ensures.into c.command_with.result
    (c.command_with.ensures ∙ ap (λ request. with_into request (name_of c.in_ok-into.into)) c.request_of_bounds.ensures)
