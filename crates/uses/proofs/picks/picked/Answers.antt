use Rattle.std.proofs.Common.{ap, sym, ◌∙◌, map, arith}
use Rattle.std.proofs.lemmas.List.{drop_all}
use Rattle.tera.specs.Pairs.{key_form_order, put_all, value_at}
use Rattle.uses.proofs.PickedLemmas.{found_picked}
use Rattle.uses.specs.Picks.{named}
use Rattle.uses.proofs.picks.picked.Goals as goal

pub returns-clause-found : goal.returns-clause-found
returns-clause-found c q =
    let pairs = c.args.pairs.now in
    let none_left = drop_all c.loop-name.name-index c.args.names.now (omega (arith, c.loop-name-test.false)) in
    let whole = sym (ap (λ names. put_all key_form_order c.loop-name.picked (named pairs (map (λ name. name.now) names))) none_left)
    ∙ c.loop-name.invariant in
    ap (λ ps. value_at key_form_order ps q) whole ∙ found_picked pairs (map (λ name. name.now) c.args.names.now) q
