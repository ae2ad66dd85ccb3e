use Rattle.std.proofs.Common.{◌≡◌, inl, inr, refl, subst, sym, rules}
use Rattle.tera_meaning.specs.Meaning.{meaning}
use Rattle.tera_meaning.specs.Read.{iterable_in, truthy_in}
use Rattle.tera_meaning.specs.Search.{CopyTakes}
use Rattle.tera_meaning.specs.State.{form_at}
use Rattle.tera_context.proofs.ShownLaws.{refused_where, want_passed, want_shown}
use Rattle.tera_context.proofs.steps.mark_safe.Goals as goal

pub returns-in_err-value-in-Some-clause-outcome : goal.returns-in_err-value-in-Some-clause-outcome
returns-in_err-value-in-Some-clause-outcome c =
    let held : form_at c.args.context.now c.args.name.now ≡ c.value_at.result.now = search rules in
    let parts = refused_where (iterable_in c.value_at.result.now) c.copy.result _ c.in_err-value-in-Some.was
    c.copy.ensures.succeeds in
    let some = refused_where (truthy_in (meaning c.value_at.result.now)) c.copy.result _ c.in_err-value-in-Some.was
    c.copy.ensures.empty in
    want_passed c.from_residual.result _ c.from_residual.ensures.1
    (inr (rw (c.in-Some.is) (inl (subst CopyTakes (sym held) (parts, some))), refl, refl))

pub returns-in_err-insert_value-in-Some-clause-outcome : goal.returns-in_err-insert_value-in-Some-clause-outcome
returns-in_err-insert_value-in-Some-clause-outcome c =
    want_shown c.from_residual-in_err-insert_value-in-Some.result c.in_err-insert_value-in-Some.field-0.0 _
    c.from_residual-in_err-insert_value-in-Some.ensures.1 c.in_err-insert_value-in-Some.ensures.err
    (inr (rw (c.in-Some.is) (inr c.in_err-insert_value-in-Some.ensures.absent), refl, c.in_err-insert_value-in-Some.ensures.unchanged))
