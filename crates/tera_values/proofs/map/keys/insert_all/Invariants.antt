use Rattle.std.proofs.Common.{◌≡◌, ◌+◌, ◌≤◌, ◌++◌, length}
use Rattle.std.specs.Vec.Iter.{into_iter_items}
use Rattle.indexmap.specs.IndexSet.{spare}
use Rattle.tera_values.proofs.map.keys.insert_all.Given as goal

-- those so far are in the set, and there is room for the others and one more
abbrev pub invariant-loop-key : goal.invariant-loop-key
invariant-loop-key l =
    record {
      ready : (goal.iterator-loop-key).can_next l.key-iterator;
      finite : (goal.iterator-loop-key).is_finite l.key-iterator;
      keys : l.many.keys ++ into_iter_items l.key-iterator ≡ l.fn.keys.items;
      room : length (into_iter_items l.key-iterator) + 1 ≤ spare l.many;
    }
