use Rattle.std.proofs.Common.{◌≡◌, ◌∙◌, ap, rules}
use Rattle.tera_meaning.specs.Arithmetic.{negated}
use Rattle.tera_meaning.specs.Search
use Rattle.tera_meaning.specs.Search.{one_found}
use Rattle.tera_meaning.specs.State.{form_at}
use Rattle.tera_context.specs.Request.{name_of}
use Rattle.tera_context.proofs.Found.{number_refused}
use Rattle.tera_context.proofs.ShownLaws.{not_given}
use Rattle.tera_context.proofs.compute.negate.Goals as goal

pub returns-in-Err : goal.returns-in-Err
returns-in-Err c =
    let state = c.args.context.now in
    let value : form_at state c.args.of.now ≡ c.value_at.result.now = search rules in
    let given = negated c.value_at.result.now in
    number_refused c.in-Err.error given state (Search.negate c.args.of.now) (name_of c.args.into)
    c.in-Err.ensures.err (λ i. one_found (negated (value i)))
    (not_given given c.negate.result c.in-Err.error c.in-Err.is c.negate.ensures.succeeds)

pub returns-in-Ok : goal.returns-in-Ok
returns-in-Ok c =
    let state = c.args.context.now in
    let value : form_at state c.args.of.now ≡ c.value_at.result.now = search rules in
    (c.keep_or_answer.ensures (Search.negate c.args.of.now)
    ((λ i. one_found (negated (value i))) ∙ ap one_found c.in-Ok.ensures.ok)).shown
