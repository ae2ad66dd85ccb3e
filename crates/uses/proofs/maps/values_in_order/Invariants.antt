use Rattle.std.proofs.Common.{◌≡◌, ◌++◌}
use Rattle.std.specs.Map.{values_of}
use Rattle.uses.proofs.maps.values_in_order.Given as goal

-- the values so far and those of the pairs that are left are all of them
abbrev pub invariant-loop-value : goal.invariant-loop-value
invariant-loop-value l = l.values.items ++ values_of l.value-iterator ≡ values_of l.fn.map
