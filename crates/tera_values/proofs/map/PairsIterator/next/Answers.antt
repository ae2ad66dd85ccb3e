use Rattle.std.proofs.Common.{subst, ◌∷◌}
use Rattle.std.specs.Slice.Iter.{iter_rest}
use Rattle.tera_values.specs.inner.Map.{AreColumns}
use Rattle.tera_values.proofs.ColumnLemmas.{rest_columns}
use Rattle.tera_values.proofs.map.PairsIterator.next.Goals as goal

pub invariant_of-self-2 : goal.invariant_of-self-2
invariant_of-self-2 c =
    let ks = iter_rest c.next.new.self in
    let k = c.in_ok-key.key.now in
    let first = subst (λ l. AreColumns l (iter_rest c.self.inside.values)) c.in_ok-key.ensures.steps c.self.invariant in
    rest_columns k ks c.in_ok-value.value.now (iter_rest c.next-2.new.self) (subst (AreColumns (k ∷ ks)) c.in_ok-value.ensures.steps first)
