use Rattle.std.proofs.Common.{◌+◌, ◌*◌, ◌-◌, length}
use Rattle.tera_script.proofs.Passed.{HasSomeItems, HasPairsIf}
use Rattle.tera_script.proofs.why_literal.+pass.Given as goal

-- the levels that are left; an array and a map count one more than what is in them
abbrev pub decreases-pass_literal : goal.decreases-pass_literal
decreases-pass_literal l = 3 * l.levels + 1

abbrev pub decreases-pass_array : goal.decreases-pass_array
decreases-pass_array l = 3 * l.levels

abbrev pub decreases-pass_map : goal.decreases-pass_map
decreases-pass_map l = 3 * l.levels

abbrev pub decreases-pass_pair : goal.decreases-pass_pair
decreases-pass_pair l = 3 * l.levels + 2

abbrev pub invariant-pass_array-loop-behind : goal.invariant-pass_array-loop-behind
invariant-pass_array-loop-behind l = HasSomeItems (l.levels - 1) l.fn.inside l.rest

abbrev pub decreases-pass_array-loop-behind : goal.decreases-pass_array-loop-behind
decreases-pass_array-loop-behind l = length l.rest

abbrev pub invariant-pass_map-loop-behind : goal.invariant-pass_map-loop-behind
invariant-pass_map-loop-behind l = HasPairsIf l.fn.texts (l.levels - 1) l.fn.inside l.rest

abbrev pub decreases-pass_map-loop-behind : goal.decreases-pass_map-loop-behind
decreases-pass_map-loop-behind l = length l.rest
