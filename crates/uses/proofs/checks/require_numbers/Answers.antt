use Rattle.std.proofs.Common.{◌+◌}
use Rattle.tera.proofs.GivenLaws.{passed_on}
use Rattle.tera.proofs.SteppedLaws.{stepped_more, stepped_stops}
use Rattle.uses.specs.Checks.{counted}
use Rattle.uses.proofs.checks.require_numbers.Goals as goal

pub loop-place-preserved : goal.loop-place-preserved
loop-place-preserved c =
    stepped_more counted 0 c.loop-place.place (c.loop-place.place + 1) c.args.values.now c.loop-place.place c.index-values-place.result
    c.loop-place-test.true c.index-values-place.is c.loop-place.invariant c.in_ok-require_number.ensures.ok

pub returns-in_err-require_number-clause-err : goal.returns-in_err-require_number-clause-err
returns-in_err-require_number-clause-err c =
    passed_on _ _ _ c.from_residual.ensures.1
    (stepped_stops counted 0 c.loop-place.place c.args.values.now c.loop-place.place c.index-values-place.result _ c.loop-place-test.true
    c.index-values-place.is c.loop-place.invariant c.in_err-require_number.ensures.err)
