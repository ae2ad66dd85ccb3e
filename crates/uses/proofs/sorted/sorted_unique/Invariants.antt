use Rattle.std.proofs.Common.{◌≡◌, ◌++◌}
use Rattle.uses.proofs.sorted.sorted_unique.Given as goal

-- the values so far and those that are left are those of the set
abbrev pub invariant-loop-value : goal.invariant-loop-value
invariant-loop-value l = l.sorted.items ++ l.value-iterator ≡ l.initial.value-iterator
