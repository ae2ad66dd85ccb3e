use Rattle.std.proofs.Common.{◌≡◌, Ok, take}
use Rattle.tera.specs.Stepped.{stepped}
use Rattle.uses.specs.Rules.{summed}
use Rattle.uses.proofs.rules.follow.Given as goal

-- the rules so far left what there is
abbrev pub invariant-loop-rule : goal.invariant-loop-rule
invariant-loop-rule l = stepped summed l.fn.context (take l.rule-index l.rules) ≡ Ok l.context
