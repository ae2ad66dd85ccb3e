use Rattle.std.proofs.Common.{◌+◌, ◌*◌, drop}
use Rattle.json.specs.Value.{items_view, members_view}
use Rattle.tera_json.proofs.Reading.{AreReadBut, IsMapBut}
use Rattle.tera_json.proofs.read.+value_of.Given as goal

abbrev pub decreases-value_of : goal.decreases-value_of
decreases-value_of l = 2 * l.levels + 1

abbrev pub decreases-items_of : goal.decreases-items_of
decreases-items_of l = 2 * l.levels + 2

abbrev pub decreases-members_of : goal.decreases-members_of
decreases-members_of l = 2 * l.levels + 2

-- the values of the items before
abbrev pub invariant-items_of-loop-at : goal.invariant-items_of-loop-at
invariant-items_of-loop-at l = AreReadBut l.levels l.at (items_view l.all) (items_view (drop l.at l.all)) l.made.items

-- the map of the members before
abbrev pub invariant-members_of-loop-at : goal.invariant-members_of-loop-at
invariant-members_of-loop-at l = IsMapBut l.levels (members_view l.all) (members_view (drop l.at l.all)) l.made
