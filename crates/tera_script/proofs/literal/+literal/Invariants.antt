use Rattle.std.proofs.Common.{◌+◌, ◌*◌, ◌-◌, length}
use Rattle.tera_script.proofs.Arrays.{HasItems}
use Rattle.tera_script.proofs.Maps.{HasPairs}
use Rattle.tera_script.proofs.literal.+literal.Given as goal

-- the levels that are left; an array and a map count one more than what is in them
abbrev pub decreases-take_literal : goal.decreases-take_literal
decreases-take_literal l = 3 * l.levels + 1

abbrev pub decreases-take_array : goal.decreases-take_array
decreases-take_array l = 3 * l.levels

abbrev pub decreases-take_map : goal.decreases-take_map
decreases-take_map l = 3 * l.levels

abbrev pub decreases-take_pair : goal.decreases-take_pair
decreases-take_pair l = 3 * l.levels + 2

abbrev pub invariant-take_array-loop-items : goal.invariant-take_array-loop-items
invariant-take_array-loop-items l = HasItems (l.levels - 1) l.fn.bytes l.items.items l.rest

abbrev pub decreases-take_array-loop-items : goal.decreases-take_array-loop-items
decreases-take_array-loop-items l = length l.rest

abbrev pub invariant-take_map-loop-pairs : goal.invariant-take_map-loop-pairs
invariant-take_map-loop-pairs l = HasPairs (l.levels - 1) l.fn.bytes l.pairs l.rest

abbrev pub decreases-take_map-loop-pairs : goal.decreases-take_map-loop-pairs
decreases-take_map-loop-pairs l = length l.rest
