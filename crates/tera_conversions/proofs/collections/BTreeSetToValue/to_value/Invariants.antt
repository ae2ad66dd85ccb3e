use Rattle.std.proofs.Common.{◌≡◌, ◌++◌}
use Rattle.std.specs.List.{AllZip}
use Rattle.tera_conversions.proofs.collections.BTreeSetToValue.to_value.Given as goal

-- each part so far gave its value
abbrev pub invariant-loop-part : goal.invariant-loop-part
invariant-loop-part g l = record {
  so_far : AllZip g.T.ToValue.gives l.yielded l.rising.items;
  whole : l.yielded ++ l.part-iterator ≡ l.fn.self.keys;
}
