use Rattle.std.proofs.Common.{sym, subst, unwrap_or, []}
use Rattle.std.specs.List.{IsDistinct}
use Rattle.tera_arguments.specs.Named.{pairs_held}
use Rattle.tera_meaning.specs.Pairs.{HasDistinctKeys, key_form_order}
use Rattle.tera_arguments.proofs.kwargs.KwargsOf+Value.iter.Goals as goal

pub returns-in-Some-clause-distinct : goal.returns-in-Some-clause-distinct
returns-in-Some-clause-distinct c =
    subst (λ value. HasDistinctKeys key_form_order (pairs_held value)) c.self.view_is
    (subst (λ held. HasDistinctKeys key_form_order (unwrap_or held [])) (sym c.in-Some.ensures) c.iter.ensures.distinct)

pub returns-in-None-clause-distinct : goal.returns-in-None-clause-distinct
unfolding IsDistinct
returns-in-None-clause-distinct c =
    subst (λ value. HasDistinctKeys key_form_order (pairs_held value)) c.self.view_is
    (subst (λ held. HasDistinctKeys key_form_order (unwrap_or held [])) (sym c.in-None.ensures) tt)
