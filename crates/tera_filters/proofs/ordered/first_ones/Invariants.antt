use Rattle.std.proofs.Common.{◌≡◌, take}
use Rattle.std.specs.List.{find}
use Rattle.std.specs.List.Sorted.{IsStrictlySortedBy}
use Rattle.std.specs.Ordering.{eq_by_cmp, on}
use Rattle.tera.specs.Form.{Form}
use Rattle.tera.specs.Meaning.{meaning}
use Rattle.tera.specs.Order.{compare}
use Rattle.tera_filters.proofs.ordered.first_ones.Given as goal
use Rattle.tera_filters.specs.Arrays.{first_ones}

-- those that were seen are found where the items so far have them, and the first ones of these are made
abbrev pub invariant-loop-item : goal.invariant-loop-item
invariant-loop-item l = record {
  rises : IsStrictlySortedBy (on meaning compare) l.seen.keys;
  found : (x : Form) → find (eq_by_cmp (on meaning compare) x) l.seen.keys
      ≡ find (eq_by_cmp (on meaning compare) x) (take l.item-index l.items);
  kept : l.made.items ≡ first_ones (take l.item-index l.items);
}
