use Rattle.std.proofs.Common.{arith, refl}
use Rattle.tera_scalars.proofs.TurnLemmas.{none_turned, text_behind, turned_more, ascii_passed, all_turned}
use Rattle.tera_scalars.proofs.text.turn_each.Goals as goal

pub pieces-init : goal.pieces-init
pieces-init c = none_turned _ c.requires

pub pieces-preserved-then-is_ascii : goal.pieces-preserved-then-is_ascii
pieces-preserved-then-is_ascii c = ascii_passed c.pieces.invariant _ (omega arith) (omega arith) c.if-is_ascii.ensures.cases

pub turn_at-at-requires-clause-text : goal.turn_at-at-requires-clause-text
turn_at-at-requires-clause-text c = text_behind c.characters.invariant

pub characters-preserved : goal.characters-preserved
characters-preserved c =
    let (d, rest, split, left, long, turned) = c.turn_at-at.ensures.turns in
    turned_more c.characters.invariant _ _ _ d rest split left long refl turned

pub returns : goal.returns
returns c = all_turned c.pieces.invariant (omega (arith, c.pieces-test.false))
