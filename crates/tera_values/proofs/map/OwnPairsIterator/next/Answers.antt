use Rattle.std.proofs.Common.{subst, ◌∷◌}
use Rattle.std.specs.Vec.Iter.{into_iter_items}
use Rattle.tera_values.specs.inner.Map.{keys_left, AreColumns}
use Rattle.tera_values.proofs.ColumnLemmas.{rest_columns}
use Rattle.tera_values.proofs.map.OwnPairsIterator.next.Goals as goal

pub invariant_of-self-2 : goal.invariant_of-self-2
invariant_of-self-2 c =
    let ks = keys_left c.next_key.new.keys in
    let k = c.in_ok-key.key in
    let first = subst (λ l. AreColumns l (into_iter_items c.self.inside.values)) c.in_ok-key.ensures c.self.invariant in
    rest_columns k ks c.in_ok-value.value (into_iter_items c.next.new.self) (subst (AreColumns (k ∷ ks)) c.in_ok-value.ensures.cases.0 first)
