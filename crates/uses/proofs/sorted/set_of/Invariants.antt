use Rattle.std.proofs.Common.{◌≡◌, take}
use Rattle.std.specs.List.{find}
use Rattle.std.specs.List.Sorted.{IsStrictlySortedBy}
use Rattle.std.specs.Ordering.{eq_by_cmp, on}
use Rattle.tera.specs.Form.{Form}
use Rattle.tera.specs.Meaning.{meaning}
use Rattle.tera.specs.Order.{compare}
use Rattle.uses.proofs.sorted.set_of.Given as goal

-- the set so far finds what the values so far do
abbrev pub invariant-loop-value : goal.invariant-loop-value
invariant-loop-value l = record {
  rises : IsStrictlySortedBy (on meaning compare) l.set.keys;
  found : (x : Form) → find (eq_by_cmp (on meaning compare) x) l.set.keys
      ≡ find (eq_by_cmp (on meaning compare) x) (take l.value-index l.values);
}
