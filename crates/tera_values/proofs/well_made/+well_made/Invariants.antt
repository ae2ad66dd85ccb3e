use Rattle.std.proofs.Common.{◌+◌, ◌*◌, ◌≤◌, take}
use Rattle.tera_meaning.specs.Tree.{array, items, members, depth, items_depth, members_depth}
use Rattle.tera_values.proofs.PartsLaws.{AreMadeBut}
use Rattle.tera_meaning.specs.WellMade.{IsWellMade}
use Rattle.tera_values.proofs.well_made.+well_made.Given as goal

abbrev pub decreases-is_well_made : goal.decreases-is_well_made
decreases-is_well_made l = 2 * depth l.value.now + 1

abbrev pub decreases-items_are_well_made : goal.decreases-items_are_well_made
decreases-items_are_well_made l = 2 * items_depth (items l.all.now) + 2

-- those so far are well made
abbrev pub invariant-items_are_well_made-loop-value : goal.invariant-items_are_well_made-loop-value
invariant-items_are_well_made-loop-value l = IsWellMade (array (items (take l.value-index l.all)))

abbrev pub decreases-map_is_well_made : goal.decreases-map_is_well_made
decreases-map_is_well_made l = 2 * members_depth (members l.map.now) + 2

-- those so far are well made, and those that are left are no deeper
abbrev pub invariant-map_is_well_made-loop-key : goal.invariant-map_is_well_made-loop-key
invariant-map_is_well_made-loop-key l =
    record {
      made : AreMadeBut l.map l.key-iterator;
      within : members_depth (members l.key-iterator) ≤ members_depth (members l.map);
    }
