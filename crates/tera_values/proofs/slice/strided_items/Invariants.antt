-- The items so far are those that the walk takes.
use Rattle.std.proofs.Common.{◌≡◌, ◌≤◌, ◌-◌, length}
use Rattle.std.specs.Int.{div_ceil}
use Rattle.std.specs.Vec.{vec_len, vec_capacity}
use Rattle.tera_scalars.specs.Positions.{turned}
use Rattle.tera_values.proofs.SliceLemmas.{IsSoFar}
use Rattle.tera_values.proofs.slice.strided_items.Given as goal

-- and there is room for the others
abbrev pub invariant-loop-at : goal.invariant-loop-at
invariant-loop-at l =
    record {
      so_far : IsSoFar (turned l.backwards l.all) l.stride.from l.stride.until l.stride.by l.at l.made.items;
      so_many : vec_len l.made ≡ length l.made.items;
      room : div_ceil (l.stride.until - l.stride.from) l.stride.by ≤ vec_capacity l.made;
    }

abbrev pub decreases-loop-at : goal.decreases-loop-at
decreases-loop-at l = l.stride.until - l.at
