use Rattle.std.proofs.Common.{◌≡◌, ◌∙◌, Ok, ap, subst, sym, rules}
use Rattle.tera_meaning.specs.Search
use Rattle.tera_meaning.specs.Search.{found_at, one_found, CopyTakes}
use Rattle.tera_meaning.specs.State.{form_at}
use Rattle.tera_meaning.specs.Form.{Form}
use Rattle.tera_meaning.specs.Meaning.{meaning}
use Rattle.tera_meaning.specs.Read.{truthy_in}
use Rattle.tera_meaning.specs.SliceRule.{IsSliced}
use Rattle.tera_meaning.specs.Slice.{sliced}
use Rattle.tera_meaning.proofs.SliceLaws.{sliced_only, sliced_parts}
use Rattle.tera_context.specs.Request.{name_of}
use Rattle.tera_context.proofs.Found.{given_refused, made_takes}
use Rattle.tera_context.proofs.ShownLaws.{refused_where}
use Rattle.tera_context.proofs.find.slice.Goals as goal

pub returns-in-Err : goal.returns-in-Err
returns-in-Err c =
    let state = c.args.context.now in
    let value : form_at state c.args.of.now ≡ c.value_at-value.result.now = search rules in
    let (outcome, is, refuses) = c.in-Err.ensures.err in
    let only = sliced_only c.value_at-value.result.now c.args.start c.args.end c.args.step outcome is in
    let wanted = Search.slice c.args.of.now c.args.start c.args.end c.args.step in
    let found : found_at state wanted ≡ one_found outcome =
    (λ i. one_found (sliced (value i) c.args.start c.args.end c.args.step)) ∙ ap one_found (sym only) in
    let made : (v : Form) → outcome ≡ Ok v → IsSliced c.value_at-value.result.now c.args.start c.args.end c.args.step (Ok v) =
    λ v given. subst (IsSliced c.value_at-value.result.now c.args.start c.args.end c.args.step) given is in
    let takes : (v : Form) → outcome ≡ Ok v → CopyTakes v = λ v given. (
      sliced_parts c.value_at-value.result.now v c.args.start c.args.end c.args.step (made v given),
      refused_where (truthy_in (meaning v)) c.slice.result c.in-Err.error c.in-Err.is (c.slice.ensures.empty v (made v given)),
    ) in
    c.refused.ensures state wanted (name_of c.args.into) (made_takes wanted outcome (found_at state wanted) found takes)
    (given_refused c.in-Err.error outcome (found_at state wanted) refuses found)

pub returns-in-Ok : goal.returns-in-Ok
returns-in-Ok c =
    let value : form_at c.args.context.now c.args.of.now ≡ c.value_at-value.result.now = search rules in
    let only = sliced_only c.value_at-value.result.now c.args.start c.args.end c.args.step (Ok c.in-Ok.made) c.in-Ok.ensures.ok in
    c.keep_or_answer.ensures (Search.slice c.args.of.now c.args.start c.args.end c.args.step)
    ((λ i. one_found (sliced (value i) c.args.start c.args.end c.args.step)) ∙ ap one_found (sym only))
