use Rattle.std.proofs.Common.{◌≡◌, ◌+◌, ◌*◌, ◌≤◌, Some, None, drop}
use Rattle.std.specs.Option.{option_map}
use Rattle.tera_meaning.specs.Pairs.{key_form_order, value_at}
use Rattle.tera_meaning.specs.Tree.{items, members, depth, items_depth, members_depth}
use Rattle.tera_values.specs.Key.{key_form}
use Rattle.tera_values.specs.inner.MapDifference.{least_met, differing}
use Rattle.tera_values.proofs.PartsLaws.{lists_order}
use Rattle.tera_values.proofs.+order.Given as goal

abbrev pub decreases-compare::order : goal.decreases-compare::order
decreases-compare::order l = 6 * depth l.left.now + 1

abbrev pub decreases-compare::array_order : goal.decreases-compare::array_order
decreases-compare::array_order l = 6 * items_depth (items l.left.now) + 6

abbrev pub decreases-compare::item_order : goal.decreases-compare::item_order
decreases-compare::item_order l = 6 * depth l.left.now + 2

abbrev pub decreases-compare::items_order : goal.decreases-compare::items_order
decreases-compare::items_order l = 6 * items_depth (items l.left.now) + 5

-- what is left decides
abbrev pub invariant-compare::items_order-loop-place : goal.invariant-compare::items_order-loop-place
invariant-compare::items_order-loop-place l = lists_order l.left l.right ≡ lists_order (drop l.place l.left) (drop l.place l.right)

abbrev pub decreases-compare::map_order : goal.decreases-compare::map_order
decreases-compare::map_order l = 6 * members_depth (members l.left.now) + 6

abbrev pub decreases-compare::pairs_order : goal.decreases-compare::pairs_order
decreases-compare::pairs_order l = 6 * members_depth (members l.left.now) + 5

abbrev pub decreases-map_difference::least_difference : goal.decreases-map_difference::least_difference
decreases-map_difference::least_difference l = 6 * members_depth (members l.left.now) + 4

abbrev pub decreases-map_difference::least_differing : goal.decreases-map_difference::least_differing
decreases-map_difference::least_differing l = 6 * members_depth (members l.left.now) + 3

abbrev pub decreases-compare::differing : goal.decreases-compare::differing
decreases-compare::differing l = 6 * depth l.value.now + 2

-- what is left is no deeper, and the least so far and what is left give the least of all
abbrev pub invariant-map_difference::least_differing-loop-key : goal.invariant-map_difference::least_differing-loop-key
invariant-map_difference::least_differing-loop-key l =
    record {
      within : members_depth (members l.key-iterator) ≤ members_depth (members l.left);
      least : least_met (λ e. differing (Some e.1) (value_at key_form_order l.right e.0)) (option_map (λ d. (key_form d.0.now, d.1)) l.least) l.key-iterator
          ≡ least_met (λ e. differing (Some e.1) (value_at key_form_order l.right e.0)) None l.left;
    }
