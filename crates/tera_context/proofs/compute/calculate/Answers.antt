use Rattle.std.proofs.Common.{◌≡◌, ◌∙◌, ap, sym, rules, Ok, Some}
use Rattle.tera_meaning.specs.Arithmetic.{calculated, as_i128}
use Rattle.tera_meaning.specs.Search
use Rattle.tera_meaning.specs.Search.{found_at, one_found}
use Rattle.tera_meaning.specs.State.{form_at}
use Rattle.tera_scalars.specs.Operation.{operator_of}
use Rattle.tera_values.specs.Computed.{refusal_told}
use Rattle.tera_context.specs.Request.{name_of}
use Rattle.tera_context.proofs.Found.{number_not_found}
use Rattle.tera_context.proofs.compute.calculate.Goals as goal

pub returns-in-Err : goal.returns-in-Err
returns-in-Err c =
    let state = c.args.context.now in
    let op = operator_of c.args.op in
    let left : form_at state c.args.left.now ≡ c.value_at-first.result.now = search rules in
    let right : form_at state c.args.right.now ≡ c.value_at-second.result.now = search rules in
    number_not_found c.refused.result (refusal_told c.in-Err.why) state (Search.calculate op c.args.left.now c.args.right.now)
    (name_of c.args.into) c.refused.ensures
    ((λ i. one_found (calculated op (left i) (right i))) ∙ ap one_found (sym c.in-Err.ensures.result))

pub returns-in-Some : goal.returns-in-Some
returns-in-Some c =
    let state = c.args.context.now in
    let op = operator_of c.args.op in
    let left : form_at state c.args.left.now ≡ c.value_at-first.result.now = search rules in
    let right : form_at state c.args.right.now ≡ c.value_at-second.result.now = search rules in
    let found : found_at state (Search.calculate op c.args.left.now c.args.right.now) ≡ Ok (Some (as_i128 c.in-Ok.number)) =
    (λ i. one_found (calculated op (left i) (right i))) ∙ ap one_found (sym c.in-Ok.ensures.result) in
    let kept = c.keep_number.ensures (Search.calculate op c.args.left.now c.args.right.now) (search rules) in
    rw c.in-Some.is kept.shown
