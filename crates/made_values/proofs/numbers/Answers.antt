use Rattle.std.proofs.Common.{rules, refl, subst, sym}
use Rattle.std.proofs.lemmas.List.{drop_all}
use Rattle.made_values.specs.Made.{Appended, numbered}
use Rattle.made_values.proofs.numbers.Goals as goal

pub returns : goal.returns
returns c =
    let held = c.loop-number.items.items in
    let ended = drop_all c.loop-number.number-index c.args.of.now c.loop-number-test.false in
    let none = subst (λ l. Appended held (numbered l) held) (sym ended) refl in
    (held, c.loop-number.invariant held none, search rules)
