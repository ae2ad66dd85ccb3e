-- The names of the document that is named.
use Rattle.std.proofs.Common.{refl, subst, sym}
use Rattle.std.specs.Prelude.{Some, option_copied}
use Rattle.tera_render.proofs.Wants.{either_fault}
use Rattle.tera_render.proofs.render.names_named.Goals as goal
use Rattle.tera_render.specs.Faults.{wants}
use Rattle.tera_render.specs.Names.{AreNames, RefusesNames}
use Rattle.tera_render.specs.Page.{GivesNames, GivesNoNames}
use Rattle.tera_render.specs.declared.fault.Fault.TheVariants.{Refused}

pub returns-in-Ok-clause-ok : goal.returns-in-Ok-clause-ok
returns-in-Ok-clause-ok g c =
    let gave = g.T.Texts.gave c.args.texts.now in
    let names = subst (λ text. AreNames text c.in-Ok.names) c.as_str.ensures.value c.in-Ok.ensures.ok in
    subst (λ document. GivesNames gave (option_copied document) c.in-Ok.names) (sym c.in-Some.is) (c.in_ok-text.text, c.in_ok-text.ensures.ok, names)

pub returns-clause-err : goal.returns-clause-err
returns-clause-err g c =
    let gave = g.T.Texts.gave c.args.texts.now in
    let name = c.in-Some.name in
    let error = c.in-Err.error in
    let refuses = subst (λ text. RefusesNames text error) c.as_str.ensures.value c.in-Err.ensures.err in
    subst (λ document. GivesNoNames gave (option_copied document) c.refused.result) (sym c.in-Some.is)
    (either_fault (GivesNoNames gave (Some name.now)) (wants error) c.refused.result (Refused name error) c.refused.ensures.want c.refused.ensures.other tt
    (refl, c.in_ok-text.text, c.in_ok-text.ensures.ok, refuses))
