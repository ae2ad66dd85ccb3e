use Rattle.std.proofs.Common.{◌∙◌, IsOk, ap, refl, subst, sym, arith}
use Rattle.tera.proofs.GivenLaws.{passed_on}
use Rattle.tera.proofs.SteppedLaws.{names_stay, stepped_all, stepped_more, stepped_stops, stepped_through}
use Rattle.tera.specs.Stepped.{stepped}
use Rattle.uses.proofs.Ruled.{summed_keeps}
use Rattle.uses.specs.Rules.{summed}
use Rattle.uses.proofs.rules.follow.Goals as goal

pub loop-rule-preserved : goal.loop-rule-preserved
loop-rule-preserved c =
    stepped_more summed c.args.context.now _ _ c.args.rules.now c.loop-rule.rule-index c.rule-item.result c.loop-rule-test.true c.rule-item.is
    c.loop-rule.invariant c.in_ok-follow_one.ensures.ok

pub returns-in_err-follow_one-clause-err : goal.returns-in_err-follow_one-clause-err
returns-in_err-follow_one-clause-err c =
    passed_on _ _ _ c.from_residual.ensures.1
    (stepped_stops summed c.args.context.now _ c.args.rules.now c.loop-rule.rule-index c.rule-item.result _ c.loop-rule-test.true c.rule-item.is
    c.loop-rule.invariant c.in_err-follow_one.ensures.err)

pub returns-clause-ok : goal.returns-clause-ok
returns-clause-ok c =
    stepped_all summed c.args.context.now _ c.args.rules.now c.loop-rule.rule-index (omega (arith, c.loop-rule-test.false)) c.loop-rule.invariant

pub returns-clause-each : goal.returns-clause-each
returns-clause-each c before rule behind are =
    let whole = stepped_all summed c.args.context.now _ c.args.rules.now c.loop-rule.rule-index (omega (arith, c.loop-rule-test.false)) c.loop-rule.invariant in
    let (mid, next, so_far, one, rest) =
    stepped_through summed c.args.context.now before rule behind _ (ap (stepped summed c.args.context.now) (sym are) ∙ whole) in
    (mid, so_far, subst IsOk (sym one) refl)

pub returns-clause-held : goal.returns-clause-held
returns-clause-held c name =
    names_stay summed summed_keeps c.args.context.now c.args.rules.now _ name
    (stepped_all summed c.args.context.now _ c.args.rules.now c.loop-rule.rule-index (omega (arith, c.loop-rule-test.false)) c.loop-rule.invariant)
