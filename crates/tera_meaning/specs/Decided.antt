-- The partial order of meanings.
use Rattle.std.specs.Prelude.{ℕ, ℤ, List, Option, Some, None, if◌then◌else◌, ◌==◌}
use Rattle.std.specs.Ordering.{partial_ordering_then}
use Rattle.std.specs.declared.cmp.Ordering.{Ordering}
use Rattle.std.specs.declared.cmp.Ordering.TheVariants.{Less, Equal, Greater}
use Rattle.tera_meaning.specs.KeyMeaning.{KeyMeaning}
use Rattle.tera_meaning.specs.Meaning.{Meaning}
use Rattle.tera_meaning.specs.Order.{rank, compare}
use Rattle.tera_meaning.specs.Tree.{Items, array, object, no_items, item}

-- nothing of two maps, and nothing across ranks. Of two arrays the items decide one after another:
-- the first answer but `Equal` stands, be it none; behind equal items the lengths decide. Of all
-- else, the order of meanings
abbrev mutual
  pub decided : Meaning → Meaning → Option Ordering
  decided (array xs) (array ys) = decided_items xs ys
  decided (object ps) (object qs) = None
  decided x y = if rank x == rank y then Some (compare x y) else None

  pub decided_items : Items ℤ (List ℕ) KeyMeaning → Items ℤ (List ℕ) KeyMeaning → Option Ordering
  decided_items no_items no_items = Some Equal
  decided_items no_items (item y ys) = Some Less
  decided_items (item x xs) no_items = Some Greater
  decided_items (item x xs) (item y ys) = partial_ordering_then (decided x y) (decided_items xs ys)
