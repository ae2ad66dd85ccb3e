use Rattle.std.proofs.Common.{◌≡◌, ◌≤◌, length, map, take}
use Rattle.std.specs.Vec.{vec_len, vec_capacity}
use Rattle.tera_values.specs.Key.{key_form}
use Rattle.tera_values.proofs.map.keys.copied_list.Given as goal

-- those so far are copied, and there is room for the others
abbrev pub invariant-loop-key : goal.invariant-loop-key
invariant-loop-key l =
    record {
      forms : map key_form l.made.items ≡ map key_form (take l.key-index l.keys);
      so_many : vec_len l.made ≡ l.key-index;
      room : length l.keys ≤ vec_capacity l.made;
    }
