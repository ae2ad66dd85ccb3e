use Rattle.std.proofs.Common.{◌≡◌, ◌∙◌, inl, inr, refl, sym, subst, rules}
use Rattle.std.specs.String.{string_bytes}
use Rattle.tera_meaning.specs.Meaning.{layout}
use Rattle.tera_meaning.specs.Printed.{PrintsNothing}
use Rattle.tera_meaning.specs.Quoted.{Prints}
use Rattle.tera_meaning.proofs.QuotedLaws.{alone_exact}
use Rattle.tera_meaning.specs.State.{form_at}
use Rattle.tera_report.specs.Escaping.{Spells}
use Rattle.tera_context.proofs.ShownLaws.{not_refused, want_shown}
use Rattle.tera_context.proofs.ask.escape.Goals as goal

pub returns : goal.returns
returns c =
    let held : form_at c.args.context.now c.args.name.now ≡ c.value_at.result.now = search rules in
    let same : c.deref-2.result.now ≡ string_bytes c.in_ok-text.text = search rules in
    let text = string_bytes c.in_ok-text.text in
    let word = string_bytes c.in_ok-escape_text.field-0 in
    let prints = subst (λ v. Prints (layout v) text) (sym held) c.in_ok-text.ensures.ok in
    inl ((text, word, prints, subst (Spells word) same c.in_ok-escape_text.ensures.ok, refl), refl)

pub returns-in_err-text : goal.returns-in_err-text
returns-in_err-text c =
    let held : form_at c.args.context.now c.args.name.now ≡ c.value_at.result.now = search rules in
    want_shown c.from_residual.result c.in_err-text.field-0.0 _ c.from_residual.ensures.1 c.in_err-text.ensures.err
    (inr (
      (λ nothing. not_refused c.to_text.result _ c.in_err-text.was
          (c.to_text.ensures.free (subst (λ v. PrintsNothing (layout v)) held nothing))),
      refl,
      refl,
    ))

pub returns-in_err-escape_text : goal.returns-in_err-escape_text
returns-in_err-escape_text c =
    let held : form_at c.args.context.now c.args.name.now ≡ c.value_at.result.now = search rules in
    want_shown c.from_residual-in_err-escape_text.result c.in_err-escape_text.field-0.0 _
    c.from_residual-in_err-escape_text.ensures.1 c.in_err-escape_text.ensures.err
    (inr (
      (λ nothing.
          let known = subst (λ v. PrintsNothing (layout v)) held nothing in
          let same : c.deref-2.result.now ≡ string_bytes c.in_ok-text.text = search rules in
          let empty = alone_exact (layout c.value_at.result.now) (string_bytes c.in_ok-text.text) known.0
          c.in_ok-text.ensures.ok ∙ known.1 in
          not_refused c.escape_text.result _ c.in_err-escape_text.was
          (c.escape_text.ensures.free (same ∙ empty))),
      refl,
      refl,
    ))
