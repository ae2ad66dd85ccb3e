-- What the replay sent to two empty texts stands in them, where neither was refused memory.
use Rattle.std.proofs.Common.{append-nil, arith, rules, length, ◌<◌, ◌^◌, ◌∙◌}
use Rattle.tera_c.proofs.TextLemmas.{delivered_is, never_broke, told_is, comes_where}
use Rattle.tera_c.proofs.script.replay_text.Goals as goal

pub returns : goal.returns
returns c =
    let answers = c.in_ok-answers.ensures in
    let report = c.in_ok-report.ensures in
    let short : length c.args.script.now < 2 ^ 63 = search rules in
    comes_where c.args.script.now _ _ _ c.new-input.result c.replay_from-status.new.input _ _ _ (omega (arith, short))
    (c.new-input.ensures.bytes ∙ append-nil c.args.script.now) c.new-input.ensures.end
    (λ text gets. answers.1 ∙ delivered_is c.new-answers.result text c.replay_from-status.new.out c.new-answers.ensures.empty gets)
    (λ text gets. never_broke c.new-answers.result text c.replay_from-status.new.out answers.0 gets)
    (λ text gets. report.1 ∙ told_is c.new-report.result text c.replay_from-status.new.err c.new-report.ensures.empty report.0 gets)
    c.replay_from-status.ensures.known
