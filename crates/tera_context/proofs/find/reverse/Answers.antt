use Rattle.std.proofs.Common.{◌≡◌, Ok, ap, rules}
use Rattle.tera_meaning.specs.Form.{Form}
use Rattle.tera_meaning.specs.Meaning.{meaning}
use Rattle.tera_meaning.specs.Read.{truthy_in}
use Rattle.tera_meaning.specs.Search
use Rattle.tera_meaning.specs.Search.{found_at, one_found, CopyTakes}
use Rattle.tera_meaning.specs.SliceRule.{reversed}
use Rattle.tera_meaning.specs.State.{form_at}
use Rattle.tera_meaning.proofs.SliceLaws.{reversed_parts}
use Rattle.tera_context.specs.Request.{name_of}
use Rattle.tera_context.proofs.Found.{given_refused, made_takes}
use Rattle.tera_context.proofs.ShownLaws.{refused_where}
use Rattle.tera_context.proofs.find.reverse.Goals as goal

pub returns-in-Err : goal.returns-in-Err
returns-in-Err c =
    let state = c.args.context.now in
    let value : form_at state c.args.of.now ≡ c.value_at.result.now = search rules in
    let wanted = Search.reverse c.args.of.now in
    let given = reversed c.value_at.result.now in
    let found : found_at state wanted ≡ one_found given = ap (λ v. one_found (reversed v)) value in
    let takes : (v : Form) → given ≡ Ok v → CopyTakes v = λ v is. (
      reversed_parts c.value_at.result.now v is,
      refused_where (truthy_in (meaning v)) c.reverse.result c.in-Err.error c.in-Err.is (c.reverse.ensures.empty v is),
    ) in
    c.refused.ensures state wanted (name_of c.args.into) (made_takes wanted given (found_at state wanted) found takes)
    (given_refused c.in-Err.error given (found_at state wanted) c.in-Err.ensures.err found)
