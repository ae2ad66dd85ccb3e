use Rattle.std.proofs.Common.{sym, subst}
use Rattle.tera_meaning.specs.WellMade.{IsWellMadeState}
use Rattle.tera_context.proofs.Made.{HoldsWellMade, held_well}
use Rattle.tera_context.proofs.context.Context.is_well_made.Goals as goal

pub loop-value-init : goal.loop-value-init
loop-value-init c left =
    subst IsWellMadeState c.self.view_is
    (held_well c.self.inside.values.entries (subst HoldsWellMade c.into_iter-value-iterator.ensures.into_iter_gives.0 left))

pub loop-value-preserved : goal.loop-value-preserved
loop-value-preserved c rest =
    c.loop-value.invariant (subst HoldsWellMade (sym c.in-Some.ensures.steps) (c.is_well_made.ensures, rest))

pub returns : goal.returns
returns c = c.loop-value.invariant (subst HoldsWellMade (sym c.in-None.ensures.steps.0) tt)
