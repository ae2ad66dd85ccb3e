use Rattle.std.proofs.Common.{take}
use Rattle.tera.specs.Growing.{grown_bytes}
use Rattle.tera.specs.InTurn.{ShownInTurn}
use Rattle.uses.specs.Render.{ShowsPiece}
use Rattle.uses.proofs.render.render_pieces.Given as goal

-- the page so far is that of the pieces so far
abbrev pub invariant-loop-piece : goal.invariant-loop-piece
invariant-loop-piece l = ShownInTurn (ShowsPiece l.context) (take l.piece-index l.pieces) (grown_bytes l.page)
