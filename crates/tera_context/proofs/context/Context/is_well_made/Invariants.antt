use Rattle.tera_meaning.specs.WellMade.{IsWellMadeState}
use Rattle.tera_context.proofs.Made.{HoldsWellMade}
use Rattle.tera_context.proofs.context.Context.is_well_made.Given as goal

-- where the values that are left are well made, what is held is
abbrev pub invariant-loop-value : goal.invariant-loop-value
invariant-loop-value l = HoldsWellMade l.value-iterator → IsWellMadeState l.self
