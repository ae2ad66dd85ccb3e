use Rattle.std.proofs.Common.{◌+◌, ◌*◌, ◌≤◌, drop}
use Rattle.tera_meaning.specs.Tree.{items, members, depth, items_depth, members_depth}
use Rattle.tera_report.proofs.PutLaws.{Leads}
use Rattle.tera_values.specs.Print.{PrintsItems, PrintsLaterItems, PrintsPairs, PrintsLaterPairs}
use Rattle.tera_values.proofs.print.+print.Given as goal

abbrev pub decreases-put_value : goal.decreases-put_value
decreases-put_value g l = 6 * depth l.value.now + 1

abbrev pub decreases-put_unquoted : goal.decreases-put_unquoted
decreases-put_unquoted g l = 6 * depth l.value.now + 2

abbrev pub decreases-put_inside : goal.decreases-put_inside
decreases-put_inside g l = 6 * depth l.value.now + 3

abbrev pub decreases-put_items : goal.decreases-put_items
decreases-put_items g l = 6 * items_depth (items l.items.now) + 4

abbrev pub decreases-put_array : goal.decreases-put_array
decreases-put_array g l = 6 * items_depth (items l.all.now) + 5

-- what was put is what is printed of the items before: whatever is printed of those that are left
-- makes the whole of it
abbrev pub invariant-put_items-loop-item : goal.invariant-put_items-loop-item
invariant-put_items-loop-item g l =
    Leads g.S.Sink.takes (PrintsItems l.fn.items) (PrintsLaterItems (drop l.item-index l.others)) l.fn.out l.out

abbrev pub decreases-put_pair : goal.decreases-put_pair
decreases-put_pair g l = 6 * depth l.value.now + 4

abbrev pub decreases-put_pairs : goal.decreases-put_pairs
decreases-put_pairs g l = 6 * members_depth (members l.map.now) + 5

abbrev pub decreases-put_map : goal.decreases-put_map
decreases-put_map g l = 6 * members_depth (members l.map.now) + 6

-- what was put is what is printed of the pairs before those that are left, which are no deeper
abbrev pub invariant-put_pairs-loop-key : goal.invariant-put_pairs-loop-key
invariant-put_pairs-loop-key g l =
    Leads g.S.Sink.takes (PrintsPairs l.fn.map) (PrintsLaterPairs l.key-iterator) l.fn.out l.out
    × (members_depth (members l.key-iterator) ≤ members_depth (members l.fn.map))
