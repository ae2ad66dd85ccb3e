use Rattle.std.proofs.Common.{◌≡◌, ◌∙◌, ap, rules}
use Rattle.tera_meaning.specs.Conversion.{read_as}
use Rattle.tera_meaning.specs.Search
use Rattle.tera_meaning.specs.Search.{one_found}
use Rattle.tera_meaning.specs.State.{form_at}
use Rattle.tera_values.specs.Converted.{integer_type}
use Rattle.tera_context.specs.Request.{name_of}
use Rattle.tera_context.proofs.Found.{number_refused}
use Rattle.tera_context.proofs.ShownLaws.{not_given}
use Rattle.tera_context.proofs.compute.read.Goals as goal

pub returns-in-Err : goal.returns-in-Err
returns-in-Err c =
    let state = c.args.context.now in
    let type = integer_type c.args.to in
    let value : form_at state c.args.of.now ≡ c.value_at.result.now = search rules in
    let given = read_as type c.value_at.result.now in
    number_refused c.in-Err.error given state (Search.read type c.args.of.now) (name_of c.args.into)
    c.in-Err.ensures.err (λ i. one_found (read_as type (value i)))
    (not_given given c.read_as.result c.in-Err.error c.in-Err.is c.read_as.ensures.succeeds)

pub returns-in-Ok : goal.returns-in-Ok
returns-in-Ok c =
    let state = c.args.context.now in
    let type = integer_type c.args.to in
    let value : form_at state c.args.of.now ≡ c.value_at.result.now = search rules in
    (c.keep_or_answer.ensures (Search.read type c.args.of.now)
    ((λ i. one_found (read_as type (value i))) ∙ ap one_found c.in-Ok.ensures.ok)).shown
