use Rattle.std.proofs.Common.{◌≡◌, ◌++◌, List}
use Rattle.tera_conversions.specs.Given.{PutsPairs}
use Rattle.tera_conversions.proofs.maps.IndexMapToValue.to_value.Given as goal

-- the pair of each entry so far is put
abbrev pub invariant-loop-key : goal.invariant-loop-key
invariant-loop-key g l = record {
  before : List (g.row.K.Denot × g.row.T.Denot);
  so_far : PutsPairs g.K.ToKey.gives_key g.T.ToValue.gives before l.given;
  whole : before ++ l.key-iterator ≡ l.fn.self.entries;
}
