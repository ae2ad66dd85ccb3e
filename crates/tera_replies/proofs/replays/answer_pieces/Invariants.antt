-- What the source gave so far is answered.
use Rattle.std.proofs.Common.{◌≡◌, ℕ, ◌≤◌, List, ◌++◌, length}
use Rattle.std.specs.Io.KnownBytes.{Consumes}
use Rattle.tera_replies.specs.{Source.ReadsTo, Stretch.start}
use Rattle.tera_replies.proofs.StretchLemmas.{Went}
use Rattle.tera_replies.proofs.replays.answer_pieces.Given as goal

abbrev pub invariant-pieces : goal.invariant-pieces
invariant-pieces g l =
    let source = g.S.Source in
    record {
      before : List ℕ;
      last : List ℕ;
      consumed : Consumes (source.left l.fn.input) (source.left l.input) (before ++ last);
      reads : ReadsTo source.gave l.fn.input before last l.input;
      went : Went g.W.Sink.takes g.W.Sink.flushes start (before ++ last) l.replayer l.fn.out l.out;
      turns : l._turn ≤ length (before ++ last);
      fails : source.fails l.input ≡ source.fails l.fn.input;
    }
