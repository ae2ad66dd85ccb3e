use Rattle.std.proofs.Common.{ap, ◌∙◌, Some, None, inl, inr}
use Rattle.std.specs.Cow.{cow_str_bytes}
use Rattle.tera_context.specs.Request.{name_of}
use Rattle.tera_script.specs.inner.Call.{with_into}
use Rattle.tera_script.proofs.Values.{no_name, both_at, quoted_parts}
use Rattle.tera_script.proofs.Bare.{all_past_operand}
use Rattle.tera_script.proofs.Commands.{no_operands, nothing_behind, command_made}
use Rattle.tera_script.proofs.shape.read_text.Goals as goal

pub returns-in_default-clause-operands : goal.returns-in_default-clause-operands
returns-in_default-clause-operands c = no_operands c.requires (no_name quoted_parts c.in_default.ensures.operand)

pub returns-in_default-2-clause-operands : goal.returns-in_default-2-clause-operands
returns-in_default-2-clause-operands c =
    no_operands c.requires (both_at quoted_parts _ c.in-Some.ensures.operand None (rw (c.in_default-2.is) at c.in_ok-text.ensures.text))

pub returns-in_default-into_in-clause-operands : goal.returns-in_default-into_in-clause-operands
returns-in_default-into_in-clause-operands c =
    let found = both_at quoted_parts _ c.in-Some.ensures.operand (Some (cow_str_bytes c.in-Some-2.text, c.in-Some-2.rest.now))
    (rw (c.in-Some-2.is) at c.in_ok-text.ensures.text) in
    nothing_behind c.requires found c.in_default-into_in.ensures.into

pub returns-clause-operands : goal.returns-clause-operands
returns-clause-operands c =
    let found = both_at quoted_parts _ c.in-Some.ensures.operand (Some (cow_str_bytes c.in-Some-2.text, c.in-Some-2.rest.now))
    (rw (c.in-Some-2.is) at c.in_ok-text.ensures.text) in
    command_made c.requires found c.in-Some-into_in.ensures.into c.command_with.result
    (c.command_with.ensures ∙ ap (λ request. with_into request (name_of c.in-Some-into_in.into)) c.request_of_text.ensures)

pub returns-in_err-text-clause-free : goal.returns-in_err-text-clause-free
returns-in_err-text-clause-free c = λ free. absurd (cc (c.in_err-text.ensures.free
    (elim free [
      | inl bare ↦ inl (all_past_operand _ c.args.bytes.now c.in-Some.ensures.operand bare)
      | inr none ↦ inr (all_past_operand _ c.args.bytes.now c.in-Some.ensures.operand none)
    ])))
