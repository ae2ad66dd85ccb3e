-- What stands before the rest of the piece is read and answered.
use Rattle.std.proofs.Common.{ℕ, ◌≡◌, ◌+◌, ◌++◌, ◌≤◌, List, length}
use Rattle.tera_replies.specs.inner.Place.{place_of}
use Rattle.tera_replies.proofs.StretchLemmas.{Went}
use Rattle.tera_replies.proofs.feed.Feed.take_piece.Given as goal

abbrev pub invariant-lines : goal.invariant-lines
invariant-lines g l = record {
  read : List ℕ;
  piece_is : l.piece ≡ read ++ l.rest;
  went : Went g.W.Sink.takes g.W.Sink.flushes (place_of l.fn.self) read (place_of l.self) l.fn.out l.out;
  room : l.self.number + length l.rest ≤ l.fn.self.number + length l.piece;
}

abbrev pub decreases-lines : goal.decreases-lines
decreases-lines g l = length l.rest
