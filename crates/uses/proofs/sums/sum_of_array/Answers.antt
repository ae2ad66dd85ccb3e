use Rattle.std.proofs.Common.{arith}
use Rattle.uses.proofs.Added.{all_added}
use Rattle.uses.proofs.sums.sum_of_array.Goals as goal

pub returns-clause-numbers : goal.returns-clause-numbers
returns-clause-numbers c =
    all_added c.calculations_are_of_numbers.ensures.given c.operators_compute_what_they_stand_for.ensures.sum
    c.args.values.now c.loop-value.value-index c.loop-value.sum (omega (arith, c.loop-value-test.false)) c.loop-value.invariant
