use Rattle.std.proofs.Common.{◌≡◌, ◌++◌}
use Rattle.std.specs.List.{AllZip}
use Rattle.std.specs.Vec.Iter.{into_iter_items}
use Rattle.tera_conversions.proofs.collections.VecToValue.to_value.Given as goal

-- each part so far gave its value
abbrev pub invariant-loop-part : goal.invariant-loop-part
invariant-loop-part g l = record {
  so_far : AllZip g.T.ToValue.gives l.yielded l.given.items;
  whole : l.yielded ++ into_iter_items l.part-iterator ≡ l.fn.self.items;
}
