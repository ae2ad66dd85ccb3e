use Rattle.std.proofs.Common.{◌≡◌, ◌++◌, sym, ap, ◌∙◌, take, arith, refl, length, swap, ◌+◌, List, ℕ}
use Rattle.std.specs.Char.{encode_utf8}
use Rattle.std.proofs.lemmas.List.{length-take-le, take-append-drop}
use Rattle.tera_scalars.proofs.TurnLemmas.{one_turned, few_turned, four_turned}
use Rattle.tera_scalars.proofs.text.turn_at.Goals as goal

pub returns-then-width-eq1-clause-turns : goal.returns-then-width-eq1-clause-turns
returns-then-width-eq1-clause-turns c =
    let (d, rest, split, left, long) = c.width_at-width.ensures.spells in
    let bs = c.args.bytes.now in
    let at = c.args.at in
    let one : 1 ≡ length (encode_utf8 d) = omega (arith, long, c.if-width-eq1.true) in
    (d, rest, split, left, one, one_turned (take at bs) _ rest bs (sym (take-append-drop at bs) ∙ ap (λ xs. take at bs ++ xs) split) one)

pub returns-then-width-eq4-clause-turns : goal.returns-then-width-eq4-clause-turns
returns-then-width-eq4-clause-turns c =
    let (d, rest, split, left, long) = c.width_at-width.ensures.spells in
    let bs = c.args.bytes.now in
    let at = c.args.at in
    let whole = sym (take-append-drop at bs) ∙ ap (λ xs. take at bs ++ xs) split in
    let four : 4 ≡ length (encode_utf8 d) = omega (arith, long, c.if-width-eq4.true) in
    let turned = four_turned (take at bs) _ rest bs at _ _ _ (length-take-le at bs (omega arith)) whole four (omega arith) refl refl in
    (d, rest, split, left, long, c.swap-then-width-eq4.ensures.after ∙ ap (λ (xs : List ℕ). swap xs (at + 1) (at + 2)) c.swap.ensures.after ∙ turned)

pub returns-else-width-eq4-clause-turns : goal.returns-else-width-eq4-clause-turns
returns-else-width-eq4-clause-turns c =
    let (d, rest, split, left, long) = c.width_at-width.ensures.spells in
    let bs = c.args.bytes.now in
    let at = c.args.at in
    let whole = sym (take-append-drop at bs) ∙ ap (λ xs. take at bs ++ xs) split in
    let turned = few_turned (take at bs) _ rest bs at _ _ (length-take-le at bs (omega arith)) whole long (omega arith) (omega arith) refl in
    (d, rest, split, left, long, c.swap.ensures.after ∙ turned)
