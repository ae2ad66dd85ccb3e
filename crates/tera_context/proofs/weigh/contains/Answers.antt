use Rattle.std.proofs.Common.{◌≡◌, None, rules}
use Rattle.tera_meaning.specs.Lookup.{holds}
use Rattle.tera_meaning.specs.State.{form_at}
use Rattle.tera_meaning.specs.Weighing
use Rattle.tera_meaning.specs.Weighing.{truth_told}
use Rattle.tera_context.proofs.ShownLaws.{weighing_refused, not_given}
use Rattle.tera_context.proofs.weigh.contains.Goals as goal

pub returns-in_err-held : goal.returns-in_err-held
returns-in_err-held c =
    let state = c.args.context.now in
    let container : form_at state c.args.of.now ≡ c.value_at.result.now = search rules in
    let needle : form_at state c.args.needle.now ≡ c.value_at-needle.result.now = search rules in
    weighing_refused c.from_residual.result c.in_err-held.field-0.0 state Weighing.contains c.args.of.now c.args.needle.now None
    (holds c.value_at.result.now c.value_at-needle.result.now) c.from_residual.ensures.1
    (not_given (holds c.value_at.result.now c.value_at-needle.result.now) c.contains.result
    c.in_err-held.field-0.0 c.in_err-held.was c.contains.ensures.succeeds)
    c.in_err-held.ensures.err (λ i. truth_told (holds (container i) (needle i)))
