use Rattle.std.proofs.Common.{◌≡◌, ◌++◌}
use Rattle.tera_conversions.specs.Given.{PutsRising}
use Rattle.tera_conversions.specs.inner.Forms.{forms_of}
use Rattle.tera_conversions.proofs.maps.HashMapToValue.to_value.Given as goal

-- the pair of each entry so far is in its place
abbrev pub invariant-loop-key : goal.invariant-loop-key
invariant-loop-key g l = record {
  so_far : PutsRising g.K.ToKey.gives_key g.T.ToValue.gives l.yielded (forms_of l.sorted.entries);
  whole : l.yielded ++ l.key-iterator ≡ l.fn.self.entries;
}
