use Rattle.std.proofs.Common.{◌≡◌, ◌∙◌, inr, refl, ap, sym, rules}
use Rattle.tera_meaning.specs.Fields.{shown_in}
use Rattle.tera_meaning.specs.State.{form_at}
use Rattle.tera_context.proofs.ShownLaws.{not_refused, want_shown}
use Rattle.tera_context.proofs.ask.walk.Goals as goal

pub returns-in_err-names : goal.returns-in_err-names
returns-in_err-names c =
    let held : form_at c.args.context.now c.args.name.now ≡ c.value_at.result.now = search rules in
    want_shown c.from_residual.result c.in_err-names.field-0.0 _ c.from_residual.ensures.1 c.in_err-names.ensures.err
    (inr ((λ none. not_refused c.walk.result _ c.in_err-names.was (c.walk.ensures.succeeds (ap shown_in (sym held) ∙ none))), refl, refl))
