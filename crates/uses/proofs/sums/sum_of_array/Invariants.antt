use Rattle.std.proofs.Common.{◌≡◌, drop}
use Rattle.uses.specs.Sums.{added_up, nothing_yet}
use Rattle.uses.proofs.sums.sum_of_array.Given as goal

-- the sum so far, with each value that is left, is that of all
abbrev pub invariant-loop-value : goal.invariant-loop-value
invariant-loop-value l = added_up l.sum (drop l.value-index l.values) ≡ added_up nothing_yet l.fn.values
