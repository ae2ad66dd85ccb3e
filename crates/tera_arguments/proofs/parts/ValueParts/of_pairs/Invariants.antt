use Rattle.std.proofs.Common.{◌≡◌, ◌++◌}
use Rattle.std.specs.Vec.Iter.{into_iter_items}
use Rattle.tera_conversions.specs.Given.{PutsPairs}
use Rattle.tera_arguments.proofs.parts.ValueParts.of_pairs.Given as goal

-- each pair so far is put
abbrev pub invariant-loop-key : goal.invariant-loop-key
invariant-loop-key g l = record {
  so_far : PutsPairs g.K.ToKey.gives_key (λ given v. v ≡ given) l.yielded l.made;
  whole : l.yielded ++ into_iter_items l.key-iterator ≡ l.fn.pairs.items;
}
