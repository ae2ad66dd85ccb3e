use Rattle.std.proofs.Common.{◌≡◌, ◌+◌, ◌*◌, ◌≤◌, None, drop}
use Rattle.tera_meaning.specs.Tree.{items, members, depth, items_depth, members_depth}
use Rattle.tera_values.specs.inner.MapDifference.{least_met}
use Rattle.tera_values.proofs.PartsLaws.{lists_order}
use Rattle.tera_values.proofs.MapDifferenceLemmas.{from_left, left_walk}
use Rattle.tera_values.proofs.equal.+equal.Given as goal

abbrev pub decreases-equal : goal.decreases-equal
decreases-equal l = 5 * depth l.left.now + 1

abbrev pub decreases-others_equal : goal.decreases-others_equal
decreases-others_equal l = 5 * depth l.left.now

abbrev pub decreases-array_equal : goal.decreases-array_equal
decreases-array_equal l = 5 * items_depth (items l.left.now) + 4

abbrev pub decreases-items_equal : goal.decreases-items_equal
decreases-items_equal l = 5 * items_depth (items l.left.now) + 3

-- what is left decides
abbrev pub invariant-items_equal-loop-place : goal.invariant-items_equal-loop-place
invariant-items_equal-loop-place l = lists_order l.left l.right ≡ lists_order (drop l.place l.left) (drop l.place l.right)

abbrev pub decreases-map_equal : goal.decreases-map_equal
decreases-map_equal l = 5 * members_depth (members l.left.now) + 4

abbrev pub decreases-pairs_equal : goal.decreases-pairs_equal
decreases-pairs_equal l = 5 * members_depth (members l.left.now) + 3

abbrev pub decreases-alike : goal.decreases-alike
decreases-alike l = 5 * depth l.value.now + 2

-- what is left is no deeper, and meets the first difference
abbrev pub invariant-pairs_equal-loop-key : goal.invariant-pairs_equal-loop-key
invariant-pairs_equal-loop-key l =
    record {
      within : members_depth (members l.key-iterator) ≤ members_depth (members l.left);
      walk : left_walk l.left l.right ≡ least_met (from_left l.right) None l.key-iterator;
    }
