use Rattle.std.proofs.Common.{◌≡◌, ◌+◌, ◌*◌, ◌≤◌, nat_le, drop}
use Rattle.tera_meaning.specs.Tree.{items, members, depth, items_depth, members_depth}
use Rattle.tera_script.proofs.write.+fits.Given as goal

abbrev pub decreases-fits : goal.decreases-fits
decreases-fits l = 2 * depth l.value.now + 1

abbrev pub decreases-items_fit : goal.decreases-items_fit
decreases-items_fit l = 2 * items_depth (items l.all.now) + 2

abbrev pub decreases-pairs_fit : goal.decreases-pairs_fit
decreases-pairs_fit l = 2 * members_depth (members l.map.now) + 2

-- the items that are left decide
abbrev pub invariant-items_fit-loop-item : goal.invariant-items_fit-loop-item
invariant-items_fit-loop-item l =
    nat_le (items_depth (items (drop l.item-index l.all))) l.levels ≡ nat_le (items_depth (items l.fn.all)) l.fn.levels

-- the pairs that are left decide, and are no deeper
abbrev pub invariant-pairs_fit-loop-value : goal.invariant-pairs_fit-loop-value
invariant-pairs_fit-loop-value l =
    (nat_le (members_depth (members l.value-iterator)) l.levels ≡ nat_le (members_depth (members l.fn.map)) l.fn.levels)
    × (members_depth (members l.value-iterator) ≤ members_depth (members l.fn.map))
