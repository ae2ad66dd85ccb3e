use Rattle.std.proofs.Common.{◌≡◌, ◌++◌}
use Rattle.tera_conversions.specs.Given.{PutsPairs}
use Rattle.tera_conversions.proofs.maps.BTreeMapToValue.to_value.Given as goal

-- the pair of each entry so far is put
abbrev pub invariant-loop-key : goal.invariant-loop-key
invariant-loop-key g l = record {
  so_far : PutsPairs g.K.ToKey.gives_key g.T.ToValue.gives l.yielded l.given;
  whole : l.yielded ++ l.key-iterator ≡ l.fn.self.entries;
}
