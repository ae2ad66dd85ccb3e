use Rattle.std.proofs.Common.{◌≡◌, inl, inr, refl, sym, subst, rules}
use Rattle.std.specs.String.{string_bytes}
use Rattle.tera_meaning.specs.Meaning.{layout}
use Rattle.tera_meaning.specs.Printed.{PrintsNothing}
use Rattle.tera_meaning.specs.Quoted.{Prints}
use Rattle.tera_meaning.specs.State.{form_at}
use Rattle.tera_context.proofs.ShownLaws.{not_refused, want_shown}
use Rattle.tera_context.proofs.ask.print.Goals as goal

pub returns : goal.returns
returns c =
    let held : form_at c.args.context.now c.args.name.now ≡ c.value_at-value.result.now = search rules in
    let text = string_bytes c.in_ok-to_text.field-0 in
    inl ((text, subst (λ v. Prints (layout v) text) (sym held) c.in_ok-to_text.ensures.ok, refl), refl)

pub returns-in_err-to_text : goal.returns-in_err-to_text
returns-in_err-to_text c =
    let held : form_at c.args.context.now c.args.name.now ≡ c.value_at-value.result.now = search rules in
    want_shown c.from_residual.result c.in_err-to_text.field-0.0 _ c.from_residual.ensures.1 c.in_err-to_text.ensures.err
    (inr (
      (λ nothing. not_refused c.to_text.result _ c.in_err-to_text.was
          (c.to_text.ensures.free (subst (λ v. PrintsNothing (layout v)) held nothing))),
      refl,
      refl,
    ))
