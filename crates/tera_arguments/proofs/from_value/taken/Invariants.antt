use Rattle.std.proofs.Common.{◌≡◌, ◌≤◌, length, take}
use Rattle.std.specs.List.{AllZip}
use Rattle.std.specs.Vec.{vec_len, vec_capacity}
use Rattle.tera_arguments.proofs.from_value.taken.Given as goal

-- each item so far was taken, and there is room for the others
abbrev pub invariant-loop-value : goal.invariant-loop-value
invariant-loop-value g l = record {
  so_far : AllZip g.T.ArgFromValue.takes (take l.value-index l.items) l.taken.items;
  so_many : vec_len l.taken ≡ l.value-index;
  room : length l.items ≤ vec_capacity l.taken;
}
