-- What stands before the rest of the piece is read and answered.
use Rattle.std.proofs.Common.{rules, ◌≡◌, ◌+◌, ◌++◌, [], ◌∷◌, length, length-append, sym, ◌∙◌, ap, refl, append_assoc, arith}
use Rattle.std.proofs.lemmas.List.{nil_from_length}
use Rattle.std.proofs.lemmas.Result.{err_from_is_err_and}
use Rattle.tera_report.proofs.SentLaws.{sends_nothing}
use Rattle.tera_replies.specs.{inner.Place.place_of, Script.ended, Script.line_feed, declared.fault.Fault.TheVariants.OutOfMemory}
use Rattle.tera_replies.proofs.StretchLemmas.{Goes-part, Begins-none, Halts-later, Halts-line, went_nowhere, went_on}
use Rattle.tera_replies.proofs.feed.Feed.take_piece.Goals as goal

pub lines-init : goal.lines-init
lines-init g c =
    record { read = []; piece_is = refl; went = went_nowhere (place_of c.args.self.now) c.args.out.now c.requires.part; room = omega arith }

pub returns-in_err-end_line-clause-err : goal.returns-in_err-end_line-clause-err
returns-in_err-end_line-clause-err g c =
    let sink = g.W.Sink in
    let p = err_from_is_err_and c.from_residual.result c.from_residual.ensures.1 in
    let before = c.lines.invariant in
    let (line_in, is) = c.in-Some.ensures.found in
    rw (p.1, p.2, before.piece_is, is) (Halts-later sink.takes sink.fails sink.flushes sink.flush_fails _ _ _ before.went
    (Halts-line sink.takes sink.fails sink.flushes sink.flush_fails _ _ _ _ _ _ _ before.went.1.rest line_in c.in_err-end_line.ensures.err))

pub lines-preserved : goal.lines-preserved
lines-preserved g c =
    let before = c.lines.invariant in
    let (line_in, is) = c.in-Some.ensures.found in
    let line = c.in-Some.line.now in
    let later = c.in-Some.later.now in
    let lengths : length c.lines.rest.now ≡ length line + 1 + length later =
    omega (arith, ap length is, length-append (ended line) later, length-append line (line_feed ∷ [])) in
    record {
      read = before.read ++ ended line;
      piece_is = before.piece_is ∙ rw is (sym (append_assoc before.read (ended line) later));
      went = went_on before.went c.in_ok-end_line.ensures.ok;
      room = omega (arith, lengths, c.in_ok-end_line.ensures.number);
    }

pub returns-in_err-extend_from_slice-clause-err : goal.returns-in_err-extend_from_slice-clause-err
returns-in_err-extend_from_slice-clause-err g c =
    let sink = g.W.Sink in
    let p = err_from_is_err_and c.from_residual-in_err-extend_from_slice.result c.from_residual-in_err-extend_from_slice.ensures.1 in
    let before = c.lines.invariant in
    let begins = Begins-none (place_of c.lines.self) c.lines.rest.now before.went.1.rest in
    rw (p.1, p.2, before.piece_is) (Halts-later sink.takes sink.fails sink.flushes sink.flush_fails c.lines.rest.now c.lines.out OutOfMemory before.went
    ([], begins, sends_nothing sink.takes sink.flushes c.lines.out))

pub returns-clause-ok : goal.returns-clause-ok
returns-clause-ok g c =
    let before = c.lines.invariant in
    let part = c.extend_from_slice.new.self.items in
    let goes = Goes-part (place_of c.lines.self) c.lines.rest.now part before.went.1.rest c.in_default.ensures.none c.in_ok-extend_from_slice.ensures.items in
    rw before.piece_is (went_on before.went ([], goes, sends_nothing g.W.Sink.takes g.W.Sink.flushes c.lines.out))

pub returns-then-is_empty-clause-ok : goal.returns-then-is_empty-clause-ok
returns-then-is_empty-clause-ok g c =
    let none = nil_from_length c.args.piece.now (search rules) in
    rw none (went_nowhere (place_of c.args.self.now) c.args.out.now c.requires.part)
