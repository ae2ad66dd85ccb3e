use Rattle.std.proofs.Common.{ap, map}
use Rattle.std.proofs.lemmas.List.{drop_more, drop_all}
use Rattle.tera_cli.proofs.TurnLemmas.{all_left, one_done, fault_ends, none_left}
use Rattle.tera_cli.proofs.scripts.replay_each.Goals as goal

pub loop-name-init : goal.loop-name-init
loop-name-init g c = all_left _ _ _

pub loop-name-preserved : goal.loop-name-preserved
loop-name-preserved g c =
    one_done _ c.loop-name.invariant _ _ _
    (ap (map (λ name. name.now)) (drop_more c.args.names.now c.loop-name.name-index _ c.loop-name-test.true))
    (rw (c.if-status-ne0.false) at c.replay_named-status.ensures.named)

pub returns-then-status-ne0-clause-each : goal.returns-then-status-ne0-clause-each
returns-then-status-ne0-clause-each g c =
    fault_ends _ c.loop-name.invariant _ _ _ _
    (ap (map (λ name. name.now)) (drop_more c.args.names.now c.loop-name.name-index _ c.loop-name-test.true)) c.if-status-ne0.true
    c.replay_named-status.ensures.named

pub returns-clause-each : goal.returns-clause-each
returns-clause-each g c =
    none_left _ c.loop-name.invariant (ap (map (λ name. name.now)) (drop_all c.loop-name.name-index c.args.names.now c.loop-name-test.false))
