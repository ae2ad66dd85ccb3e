-- A piece that has no number for its lines is not begun.
use Rattle.std.proofs.Common.{[]}
use Rattle.tera_report.proofs.SentLaws.{sends_nothing}
use Rattle.tera_replies.specs.inner.Place.{place_of}
use Rattle.tera_replies.proofs.StretchLemmas.{Begins-none}
use Rattle.tera_replies.proofs.replayer.Replayer.take.Goals as goal

pub returns-then-has_numbers_for-clause-err : goal.returns-then-has_numbers_for-clause-err
returns-then-has_numbers_for-clause-err g c = rw c.self.view_is at c.take_piece.ensures.err

pub returns-else-has_numbers_for-clause-err : goal.returns-else-has_numbers_for-clause-err
returns-else-has_numbers_for-clause-err g c =
    let sink = g.W.Sink in
    let begins = rw c.self.view_is at (Begins-none (place_of c.self.inside.feed) c.args.piece.now c.self.invariant) in
    ([], begins, sends_nothing sink.takes sink.flushes c.args.out.now)
