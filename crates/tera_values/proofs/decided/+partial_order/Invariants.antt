use Rattle.std.proofs.Common.{◌≡◌, ◌+◌, ◌*◌, drop}
use Rattle.tera_meaning.specs.Tree.{items, depth, items_depth}
use Rattle.tera_values.proofs.DecidedParts.{lists_decided}
use Rattle.tera_values.proofs.decided.+partial_order.Given as goal

abbrev pub decreases-partial_order : goal.decreases-partial_order
decreases-partial_order l = 3 * depth l.left.now + 1

abbrev pub decreases-partial_array_order : goal.decreases-partial_array_order
decreases-partial_array_order l = 3 * items_depth (items l.left.now) + 3

abbrev pub decreases-partial_items_order : goal.decreases-partial_items_order
decreases-partial_items_order l = 3 * items_depth (items l.left.now) + 2

-- what is left decides
abbrev pub invariant-partial_items_order-loop-place : goal.invariant-partial_items_order-loop-place
invariant-partial_items_order-loop-place l = lists_decided l.left l.right ≡ lists_decided (drop l.place l.left) (drop l.place l.right)
