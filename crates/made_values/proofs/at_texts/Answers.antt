use Rattle.std.proofs.Common.{rules, refl, subst, sym, map}
use Rattle.std.proofs.lemmas.List.{drop_all}
use Rattle.made_values.specs.Made.{Inserted, at_text}
use Rattle.made_values.proofs.at_texts.Goals as goal

pub returns : goal.returns
returns c =
    let held = c.loop-key.map in
    let ended = drop_all c.loop-key.key-index c.args.pairs.now c.loop-key-test.false in
    let none = subst (λ l. Inserted held (map (λ p. at_text p.0.now p.1) l) held) (sym ended) refl in
    (held, c.loop-key.invariant held none, search rules)
