-- The pieces so far are one stretch, and it is answered.
use Rattle.std.proofs.Common.{ℕ, List, take}
use Rattle.std.specs.List.{flat_map}
use Rattle.tera.specs.Sink.{Sends}
use Rattle.tera_replies.specs.Stretch.{Goes, start}
use Rattle.uses.proofs.replays.replay_pieces.Given as goal

abbrev pub invariant-loop-piece : goal.invariant-loop-piece
invariant-loop-piece g l =
    (text : List ℕ) × Goes start (flat_map (λ piece. piece.items) (take l.piece-index l.pieces)) text l.replayer
    × Sends g.W.Sink.takes g.W.Sink.flushes l.fn.out text l.out
