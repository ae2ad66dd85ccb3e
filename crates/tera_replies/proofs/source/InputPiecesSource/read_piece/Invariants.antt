-- What is left stays, where pieces that are given or empty are passed over.
use Rattle.std.proofs.Common.{length, ◌-◌, ◌≡◌}
use Rattle.tera_replies.specs.Source.{bytes_left, fails_at_end}
use Rattle.tera_replies.proofs.source.InputPiecesSource.read_piece.Given as goal

abbrev pub invariant-loop-self : goal.invariant-loop-self
invariant-loop-self l = record {
  left : bytes_left l.self ≡ bytes_left l.fn.self;
  fails : fails_at_end l.self ≡ fails_at_end l.fn.self;
}

abbrev pub decreases-loop-self : goal.decreases-loop-self
decreases-loop-self l = length l.self.pieces.now - l.self.at
