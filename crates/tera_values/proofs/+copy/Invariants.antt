use Rattle.std.proofs.Common.{◌≡◌, ◌≤◌, ◌+◌, ◌*◌, length, take}
use Rattle.std.specs.Vec.{vec_len, vec_capacity}
use Rattle.tera_meaning.specs.Tree.{items, members, depth, items_depth, members_depth}
use Rattle.tera_values.proofs.+copy.Given as goal

abbrev pub decreases-copy::copies : goal.decreases-copy::copies
decreases-copy::copies l = 5 * items_depth (items l.all.now) + 2

-- those so far are copied, and there is room for the others
abbrev pub invariant-copy::copies-loop-value : goal.invariant-copy::copies-loop-value
invariant-copy::copies-loop-value l =
    record {
      copied : l.made.items ≡ take l.value-index l.all;
      so_many : vec_len l.made ≡ l.value-index;
      room : length l.all ≤ vec_capacity l.made;
    }

abbrev pub decreases-map::columns::Columns::copy : goal.decreases-map::columns::Columns::copy
decreases-map::columns::Columns::copy l = 5 * members_depth (members l.self.now) + 3

abbrev pub decreases-map::Map::copy : goal.decreases-map::Map::copy
decreases-map::Map::copy l = 5 * members_depth (members l.self.now) + 4

abbrev pub decreases-copy::push_copy : goal.decreases-copy::push_copy
decreases-copy::push_copy l = 5 * depth l.value.now + 1

abbrev pub decreases-value::Value::owner_copy : goal.decreases-value::Value::owner_copy
decreases-value::Value::owner_copy l = 5 * depth l.self.now
