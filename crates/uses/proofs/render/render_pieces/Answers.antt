use Rattle.std.proofs.Common.{◌∙◌, arith}
use Rattle.tera.proofs.InTurnLaws.{shown_more, shown_all, shown_known}
use Rattle.uses.proofs.Pages.{piece_known}
use Rattle.uses.specs.Render.{IsExactPiece, ShowsPiece, shown_by}
use Rattle.uses.proofs.render.render_pieces.Goals as goal

pub loop-piece-preserved : goal.loop-piece-preserved
loop-piece-preserved c =
    let (shown, shows, grows) = c.in_ok-put_piece.ensures.ok in
    shown_more (ShowsPiece c.args.context.now) c.args.pieces.now c.loop-piece.piece-index c.piece-item.result _ shown _
    c.loop-piece-test.true c.piece-item.is c.loop-piece.invariant shows grows

pub returns-clause-known : goal.returns-clause-known
returns-clause-known c exact =
    let state = c.args.context.now in
    c.into_text.ensures
    ∙ shown_known (ShowsPiece state) (IsExactPiece state) (shown_by state) (piece_known c.pages_show_values.ensures.known state) c.args.pieces.now _ exact
    (shown_all (ShowsPiece state) c.args.pieces.now c.loop-piece.piece-index _ (omega (arith, c.loop-piece-test.false)) c.loop-piece.invariant)
