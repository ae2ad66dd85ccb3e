use Rattle.std.proofs.Common.{◌∙◌, sym, subst}
use Rattle.tera_values.specs.inner.Map.{HasPairs}
use Rattle.tera_values.proofs.map.Map.put.Goals as goal

pub invariant_of-self : goal.invariant_of-self
invariant_of-self c = λ e.
    let some = subst HasPairs c.in-Pairs.is c.self.invariant in
    some (sym c.deref_mut.ensures.value ∙ c.insert.ensures.some e)
