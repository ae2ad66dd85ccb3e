use Rattle.std.proofs.Common.{◌+◌, ◌*◌, ◌≤◌, drop}
use Rattle.tera_meaning.specs.Tree.{items, members, depth, items_depth, members_depth}
use Rattle.tera_report.proofs.PutLaws.{SoFar}
use Rattle.tera_script.specs.Written.{items_literal, more_literal, pairs_literal, more_pairs_literal}
use Rattle.tera_script.proofs.write.+write.Given as goal

abbrev pub decreases-put_literal : goal.decreases-put_literal
decreases-put_literal g l = 6 * depth l.value.now + 2

abbrev pub decreases-put_other : goal.decreases-put_other
decreases-put_other g l = 6 * depth l.value.now + 1

abbrev pub decreases-put_items : goal.decreases-put_items
decreases-put_items g l = 6 * items_depth (items l.all.now) + 4

abbrev pub decreases-put_array : goal.decreases-put_array
decreases-put_array g l = 6 * items_depth (items l.all.now) + 5

-- what was put is the literals of the items before those that are left
abbrev pub invariant-put_items-loop-item : goal.invariant-put_items-loop-item
invariant-put_items-loop-item g l =
    SoFar g.S.Sink.takes l.fn.out (items_literal l.fn.ascii (items l.fn.all)) (more_literal l.fn.ascii (items (drop l.item-index l.others))) l.out

abbrev pub decreases-put_pair : goal.decreases-put_pair
decreases-put_pair g l = 6 * depth l.value.now + 4

abbrev pub decreases-put_pairs : goal.decreases-put_pairs
decreases-put_pairs g l = 6 * members_depth (members l.map.now) + 5

abbrev pub decreases-put_map : goal.decreases-put_map
decreases-put_map g l = 6 * members_depth (members l.map.now) + 6

-- what was put is the literals of the pairs before those that are left, which are no deeper
abbrev pub invariant-put_pairs-loop-key : goal.invariant-put_pairs-loop-key
invariant-put_pairs-loop-key g l =
    SoFar g.S.Sink.takes l.fn.out (pairs_literal l.fn.ascii (members l.fn.map)) (more_pairs_literal l.fn.ascii (members l.key-iterator)) l.out
    × (members_depth (members l.key-iterator) ≤ members_depth (members l.fn.map))
