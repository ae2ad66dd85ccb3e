use Rattle.std.proofs.Common.{◌≡◌, ◌≤◌, length, take, reverse}
use Rattle.std.specs.Vec.{vec_len, vec_capacity}
use Rattle.tera_values.proofs.slice.reversed_items.Given as goal

-- the last ones so far are copied, and there is room for the others
abbrev pub invariant-loop-place : goal.invariant-loop-place
invariant-loop-place l =
    record {
      copied : l.made.items ≡ take l.place (reverse l.all);
      so_many : vec_len l.made ≡ l.place;
      room : length l.all ≤ vec_capacity l.made;
    }
