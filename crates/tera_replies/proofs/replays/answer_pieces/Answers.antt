-- What the source gave so far is answered, also where a fault ends the loop.
use Rattle.std.proofs.Common.{◌≡◌, ◌<◌, ◌++◌, [], inl, inr, length, length-append, take, ◌∙◌, subst, refl, rules, sym, arith, append-nil}
use Rattle.std.proofs.{lemmas.Result.err_from_is_err_and, lemmas.List.length-take-le}
use Rattle.tera_replies.specs.{Source.EndIsTold, Source.Giving, Source.given_by, Source.ReadEnds, Source.ReadFails, Source.ReadsTo, Stretch.start}
use Rattle.tera_replies.proofs.InputLemmas.{Ends-all, Ends-stops, at_failure, at_write}
use Rattle.tera_replies.proofs.ReadLemmas.{Consumes-none, Consumes-append, fails_behind, kept_is_none, reads_all, where_known}
use Rattle.tera_replies.proofs.StretchLemmas.{Begins-all, went_flushed, went_nowhere, went_on}
use Rattle.tera_replies.proofs.ReplyLemmas.{broke_on_flush}
use Rattle.tera_replies.proofs.replays.answer_pieces.Goals as goal

pub pieces-init : goal.pieces-init
pieces-init g c =
    let input = c.args.input.now in
    record {
      before = [];
      last = [];
      consumed = Consumes-none (g.S.Source.left input);
      reads = inl (refl, refl, refl);
      went = rw c.requires (went_nowhere start c.args.out.now (λ k d h. absurd (omega arith)));
      turns = omega arith;
      fails = refl;
    }

pub returns-in_err-flush : goal.returns-in_err-flush
returns-in_err-flush g c =
    let p = err_from_is_err_and c.from_residual.result c.from_residual.ensures.1 in
    let (is, failed) = c.in_err-flush.ensures.err in
    let before = c.pieces.invariant in
    let (text, goes, sent) = before.went in
    let given = before.before ++ before.last in
    let broke = broke_on_flush sent failed in
    rw (p.1, p.2, is) (record {
      known = where_known _ _ _ _ before.consumed (λ bytes rest left e.
          (text, at_write rest before.last _ _ e before.reads (Begins-all goes) refl, broke));
      given = (
        given,
        before.consumed,
        inl (before.before, before.last, refl, before.reads),
        (text, at_write [] before.last _ _ (sym (append-nil given)) before.reads (Begins-all goes) refl, broke),
      );
    })

pub returns-in_err-count : goal.returns-in_err-count
returns-in_err-count g c =
    let p = err_from_is_err_and c.from_residual-in_err-count.result c.from_residual-in_err-count.ensures.1 in
    let before = c.pieces.invariant in
    let (text, goes, sent) = went_flushed before.went c.in_ok-flush.ensures.ok in
    let given = before.before ++ before.last in
    let reads = reads_all g.S.Source.gave before.reads in
    let failed : ReadFails g.S.Source.gave c.args.input.now given c.read_piece.new.self =
    (c.pieces.input, c.read_piece.new.piece, c.in_err-count.field-0.0, reads, c.in_err-count.ensures.told) in
    let may = rw before.fails at c.in_err-count.ensures.err in
    let consumed = rw (append-nil given) at (Consumes-append _ _ (g.S.Source.left c.read_piece.new.self) given [] before.consumed
    (kept_is_none _ _ c.in_err-count.ensures.bytes)) in
    rw (p.1, p.2) (record {
      known = where_known _ _ _ _ before.consumed (λ bytes rest left e.
          (text, at_failure rest e (inl (rw left at may, failed)) goes, sent));
      given = (
        given,
        consumed,
        inr (inr failed),
        (text, at_failure [] (sym (append-nil given)) (inl (fails_behind _ _ may, failed)) goes, sent),
      );
    })

pub returns-then-count-eq0 : goal.returns-then-count-eq0
returns-then-count-eq0 g c =
    let sink = g.W.Sink in
    let piece = c.read_piece.new.piece in
    let none : c.in_ok-count.count ≡ 0 = c.if-count-eq0.true in
    let room : 0 < length piece = search rules in
    let before = c.pieces.invariant in
    let told = subst EndIsTold before.fails (c.in_ok-count.ensures.end none room) in
    let went = went_flushed before.went c.in_ok-flush.ensures.ok in
    let given = before.before ++ before.last in
    let ends : ReadEnds g.S.Source.gave c.args.input.now given c.read_piece.new.self =
    (c.pieces.input, piece, room, reads_all g.S.Source.gave before.reads, rw none at c.in_ok-count.ensures.told) in
    let consumed = rw (append-nil given) at (Consumes-append _ _ (g.S.Source.left c.read_piece.new.self) given [] before.consumed
    (rw none at c.in_ok-count.ensures.bytes.0)) in
    let all = Ends-all sink.takes sink.fails sink.flushes sink.flush_fails _ _ c.finish.new.self.state c.finish.new.out c.finish.result went ends told
    c.finish.ensures.ok c.finish.ensures.err in
    record {
      known = where_known _ _ _ _ consumed (λ bytes rest left e.
          let ended = rw left at (c.in_ok-count.ensures.bytes.1 none room) in
          let whole : bytes ≡ given = e ∙ rw (ended, append-nil) in
          rw whole all);
      given = (given, consumed, inr (inl ends), all);
    }

pub returns-in_err-take : goal.returns-in_err-take
returns-in_err-take g c =
    let p = err_from_is_err_and c.from_residual-in_err-take.result c.from_residual-in_err-take.ensures.1 in
    let sink = g.W.Sink in
    let before = c.pieces.invariant in
    let went = went_flushed before.went c.in_ok-flush.ensures.ok in
    let given = before.before ++ before.last in
    let consumed = Consumes-append _ _ (g.S.Source.left c.read_piece.new.self) given _ before.consumed c.in_ok-count.ensures.bytes.0 in
    let some : 0 < c.in_ok-count.count = omega (arith, c.if-count-eq0.false) in
    let one : Giving = record { piece = c.read_piece.new.piece; count = c.in_ok-count.count; some = some } in
    let whole = given ++ given_by one in
    let reads : ReadsTo g.S.Source.gave c.args.input.now given (given_by one) c.read_piece.new.self =
    inr (c.pieces.input, one, reads_all g.S.Source.gave before.reads, c.in_ok-count.ensures.told, refl) in
    rw (p.1, p.2) (record {
      known = where_known _ _ _ _ consumed (λ bytes rest left e. Ends-stops sink.takes sink.fails sink.flushes sink.flush_fails _ rest _ _ _
          c.in_err-take.field-0.0 e reads went c.in_err-take.ensures.err);
      given = (
        whole,
        consumed,
        inl (given, given_by one, refl, reads),
        Ends-stops sink.takes sink.fails sink.flushes sink.flush_fails _ [] _ _ _ c.in_err-take.field-0.0 (sym (append-nil whole)) reads went
            c.in_err-take.ensures.err,
      );
    })

pub pieces-preserved : goal.pieces-preserved
pieces-preserved g c =
    let room = c.read_piece.new.piece in
    let count = c.in_ok-count.count in
    let piece = take count room in
    let taken : length piece ≡ count = length-take-le count room c.in_ok-count.ensures.bound in
    let some : 0 < count = omega (arith, c.if-count-eq0.false) in
    let before = c.pieces.invariant in
    let given = before.before ++ before.last in
    let one : Giving = record { piece = room; count = count; some = some } in
    record {
      before = given;
      last = piece;
      consumed = Consumes-append _ _ (g.S.Source.left c.read_piece.new.self) given piece before.consumed c.in_ok-count.ensures.bytes.0;
      reads = inr (c.pieces.input, one, reads_all g.S.Source.gave before.reads, c.in_ok-count.ensures.told, refl);
      went = went_on (went_flushed before.went c.in_ok-flush.ensures.ok) c.in_ok-take.ensures.ok;
      turns = omega (arith, before.turns, length-append given piece);
      fails = c.read_piece.ensures.stays ∙ before.fails;
    }

pub returns : goal.returns
returns g c =
    let before = c.pieces.invariant in
    let (text, goes, sent) = before.went in
    let given = before.before ++ before.last in
    record {
      known = where_known _ _ _ _ before.consumed (λ bytes rest left e.
          (text, at_failure rest e (inr (omega (arith, before.turns), (before.before, before.last, refl, before.reads))) goes, sent));
      given = (
        given,
        before.consumed,
        inl (before.before, before.last, refl, before.reads),
        (text, at_failure [] (sym (append-nil given)) (inr (omega (arith, before.turns), (before.before, before.last, refl, before.reads))) goes, sent),
      );
    }
