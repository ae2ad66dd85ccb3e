-- From how answering ended to the theorem, and from watched writers to the writers.
use Rattle.std.proofs.Common.{◌≡◌, ◌≢◌, ℕ, Bool, inl, inr, List, [], ◌∷◌, ◌++◌, map, Option, None, Some, Result, Ok, Err, IfSome, sym, ◌∙◌, ap, refl}
use Rattle.std.proofs.Common.{subst, append_assoc, append-nil}
use Rattle.std.proofs.lemmas.Option.{IfSome_then}
use Rattle.std.specs.{declared.io.Error.Error, List.FoldsTo, List.flat_map}
use Rattle.tera_report.specs.Watch.{watched_writer, writer_loan, SameWriter, WatchedTakes, WatchedFails, WatchedFlushes, WatchedFlushFails}
use Rattle.tera_report.specs.{Sink.Use, Sink.put, Sink.flush, Sink.Uses, Sink.Delivers, Sink.PutsThese, declared.watch.Watched.Watched}
use Rattle.tera_report.proofs.SentLaws.{watched_sends}
use Rattle.tera_replies.specs.declared.fault.Fault.TheVariants.{BadLine, ReadFailed, WriteFailed, OutOfMemory}
use Rattle.tera_report.specs.declared.sink.Sink as Sink
use Rattle.tera_replies.specs.declared.source.Source as Source
use Rattle.tera_replies.specs.{Output.Broke, Output.BrokeOn, Output.Sent, Output.TakesOrFails, Output.WriterBroke, Output.WriterTakesOrFails}
use Rattle.tera_replies.specs.Streams.{Input, Streams, streams_beside}
use Rattle.tera_replies.specs.{declared.fault.Fault.Fault, inner.Endings.Ends}
use Rattle.tera_replies.specs.{inner.Endings.EndsFlushed, inner.Endings.told, inner.Endings.status_at, Replay.Replays, Replay.ReadEnough, Replay.Writes}
use Rattle.tera_replies.specs.{Replay.ReplaysGiven, Replay.ReplaysKnown, Replay.WritingFailed, Script.BadLine as Bad}
use Rattle.tera_replies.specs.{Replay.lines_given, Script.Splits, Script.ended, Script.without_return}
use Rattle.tera_replies.proofs.{InputLemmas.broke_at_end, InputLemmas.broke_at_failure, InputLemmas.broke_at_memory, InputLemmas.first_given}
use Rattle.tera_replies.proofs.{ReplyLemmas.broke_on_flush, StretchLemmas.splits, StretchLemmas.Splits-more}

-- what was told was put, or putting it failed
pub told_comes : {S E : Type 0} (takes fails : S → List ℕ → S → Type 0) (put : Result (Unit {0}) E) (text : List ℕ) (old new : S)
    → PutsThese takes fails put text old new → TakesOrFails takes fails old text new
told_comes takes fails (Ok done) text old new h = inl h
told_comes takes fails (Err fault) text old new h = inr h

module _ (bytes : List ℕ) (fails : Option Bool) (input : Input) where
  -- what is due where no write failed
  ends_write : (OutGets OutBroke : List ℕ → Type 0) (ending : Result Bool Fault) → ending ≢ Err WriteFailed
      → Ends bytes fails input OutGets OutBroke ending
      → (out : List ℕ) × Writes bytes fails input out (told ending) (status_at ending) × OutGets out
  ends_write OutGets OutBroke (Ok wanted) other (out, h, gets) = (out, inl h, gets)
  ends_write OutGets OutBroke (Err (BadLine report)) other (out, h, gets) = (out, inl h, gets)
  ends_write OutGets OutBroke (Err ReadFailed) other (out, h, gets) = (out, inr (inl h), gets)
  ends_write OutGets OutBroke (Err WriteFailed) other h = absurd (other refl)
  ends_write OutGets OutBroke (Err OutOfMemory) other (out, h, gets) = (out, inr (inr h), gets)

  due : (out err : List ℕ) (status : ℕ) → Writes bytes fails input out err status → WritingFailed bytes fails input out
  due out err status (inl h) = broke_at_end h
  due out err status (inr (inl h)) = broke_at_failure h
  due out err status (inr (inr h)) = broke_at_memory fails h

  -- what was answered and what a last flush made of it is the theorem, where it is told
  pub ends_replay : {S F : Type 0} (sink : Sink.Ghosts S F) (ErrGets : List ℕ → Type 0) (old mid new : S) (ending result : Result Bool Fault)
      → EndsFlushed sink.flushes sink.flush_fails ending result mid new → ErrGets (told result)
      → Ends bytes fails input (Sent sink old mid) (Broke sink old mid) ending
      → Replays bytes fails input (streams_beside sink old new ErrGets) (status_at result)
  ends_replay sink ErrGets old mid new ending result (inl (is, was, same)) tells h =
      let (out, failed, broke) = rw was at h in
      rw (is, same) (inr (out, failed, broke, refl, rw is at tells))
  ends_replay sink ErrGets old mid new ending result (inr (inl (is, other, passed))) tells h =
      let (out, writes, sent) = ends_write _ _ ending other h in
      rw is (inl (out, told ending, writes, (mid, sent, passed), rw is at tells))
  ends_replay sink ErrGets old mid new ending result (inr (inr (is, other, failed))) tells h =
      let (out, writes, sent) = ends_write _ _ ending other h in
      rw is (inr (out, due out (told ending) (status_at ending) writes, broke_on_flush sent failed, refl, rw is at tells))

-- what stands behind others
module _ {input other : Input} (had : (before last : List ℕ) → input.gave before last → other.gave before last)
    (done : (given : List ℕ) → input.ended given → other.ended given) (faulty : (given : List ℕ) → input.failed given → other.failed given) where
  read_weaker : (bytes : List ℕ) (bad : Option Bad) → ReadEnough bytes bad input → ReadEnough bytes bad other
  read_weaker bytes bad (inl (end, behind)) = inl (done bytes end, behind)
  read_weaker bytes bad (inr (before, last, rest, front, gave, behind, whole)) =
      inr (before, last, rest, front, had before last gave, behind, whole)

  pub writes_weaker : {bytes : List ℕ} {fails : Option Bool} {out err : List ℕ} {status : ℕ} → Writes bytes fails input out err status
      → Writes bytes fails other out err status
  writes_weaker {bytes} (inl h) = inl (record {
    lines = h.lines;
    part = h.part;
    bad = h.bad;
    outcomes = h.outcomes;
    split = h.split;
    answers = h.answers;
    ended = h.ended;
    read = read_weaker bytes h.bad h.read;
    replied = h.replied;
    err_is = h.err_is;
    status_is = h.status_is;
  })
  writes_weaker (inr (inl h)) = inr (inl (record {
    given = h.given;
    rest = h.rest;
    lines = h.lines;
    part = h.part;
    outcomes = h.outcomes;
    front = h.front;
    cause = elim h.cause [
      | inl (may, failed) ↦ inl (may, faulty h.given failed)
      | inr (long, (before, last, are, gave)) ↦ inr (long, (before, last, are, had before last gave))
    ];
    split = h.split;
    answers = h.answers;
    replied = h.replied;
    err_is = h.err_is;
    status_is = h.status_is;
  }))
  writes_weaker (inr (inr h)) = inr (inr (record {
    before = h.before;
    last = h.last;
    rest = h.rest;
    lines = h.lines;
    part = h.part;
    first = h.first;
    later = h.later;
    outcomes = h.outcomes;
    front = h.front;
    read = elim h.read [ inl gave ↦ inl (had h.before h.last gave) | inr (none, all, end) ↦ inr (none, all, done h.before end) ];
    split = h.split;
    lines_are = h.lines_are;
    prompt = h.prompt;
    answers = h.answers;
    replied = h.replied;
    err_is = h.err_is;
    status_is = h.status_is;
  }))

  pub broke_weaker : {bytes : List ℕ} {fails : Option Bool} {out : List ℕ} → WritingFailed bytes fails input out
      → WritingFailed bytes fails other out
  broke_weaker h = record {
    before = h.before;
    last = h.last;
    rest = h.rest;
    lines = h.lines;
    part = h.part;
    first = h.first;
    later = h.later;
    bad = h.bad;
    outcomes = h.outcomes;
    front = h.front;
    read = elim h.read [
      | inl gave ↦ inl (had h.before h.last gave)
      | inr (none, inl (all, end)) ↦ inr (none, inl (all, done h.before end))
      | inr (none, inr (may, failed)) ↦ inr (none, inr (may, faulty h.before failed))
    ];
    split = h.split;
    lines_are = elim h.lines_are [ inl are ↦ inl are | inr (none, all, end, are) ↦ inr (none, all, done h.before end, are) ];
    prompt = h.prompt;
    fresh = h.fresh;
    answers = h.answers;
    replied = h.replied;
  }

-- the theorem of what stands behind others
module _ {first second : Streams} (out : (text : List ℕ) → first.out_gets text → second.out_gets text)
    (broke : (text : List ℕ) → first.out_broke text → second.out_broke text) (err : (text : List ℕ) → first.err_gets text → second.err_gets text) where
  pub replay_weaker : {bytes : List ℕ} {fails : Option Bool} {input other : Input} {status : ℕ}
      → ((before last : List ℕ) → input.gave before last → other.gave before last) → ((given : List ℕ) → input.ended given → other.ended given)
      → ((given : List ℕ) → input.failed given → other.failed given) → Replays bytes fails input first status → Replays bytes fails other second status
  replay_weaker had done faulty (inl (answers, report, writes, gets, told)) =
      inl (answers, report, writes_weaker had done faulty writes, out answers gets, err report told)
  replay_weaker had done faulty (inr (due, failed, is_broken, is, told)) =
      inr (due, broke_weaker had done faulty failed, broke due is_broken, is, err _ told)

  -- the same where the bytes are known
  pub known_weaker : {S : Type 0} (source : Source.Ghosts S) (old : S) (input other : Input) (status : ℕ)
      → ((before last : List ℕ) → input.gave before last → other.gave before last) → ((given : List ℕ) → input.ended given → other.ended given)
      → ((given : List ℕ) → input.failed given → other.failed given) → ReplaysKnown source old input first status
      → ReplaysKnown source old other second status
  known_weaker source old input other status had done faulty h =
      IfSome_then (source.left old) h (λ bytes replay. replay_weaker had done faulty replay)

  -- and where reads gave them
  pub given_weaker : {S : Type 0} (source : Source.Ghosts S) (old new : S) (status : ℕ) → ReplaysGiven source old new first status
      → ReplaysGiven source old new second status
  given_weaker source old new status (given, consumed, were, replay) =
      (given, consumed, were, replay_weaker (λ _ _ h. h) (λ _ h. h) (λ _ h. h) replay)

-- the lines of which the first were to be answered are the first of all lines
pub first_of_all : {bytes out : List ℕ} {fails : Option Bool} {input : Input}
    (h : WritingFailed bytes fails input out) → (lines : List (List ℕ)) × (part : List ℕ) × (later : List (List ℕ))
    × Splits bytes lines part × (lines_given fails lines part ≡ h.first ++ later)
first_of_all {bytes} {out} {fails} h = elim h.lines_are [
  | inl are ↦
      let (others, end, s) = splits (h.part ++ h.rest) in
      let (more, among) = first_given fails h.lines others end in
      let further = map without_return others ++ more in (
        h.lines ++ others,
        end,
        h.later ++ further,
        Splits-more h.lines others h.split.each s
            (h.front ∙ ap (λ (zs : List ℕ). zs ++ h.rest) h.split.whole ∙ append_assoc (flat_map ended h.lines) h.part h.rest),
        among ∙ ap (λ (zs : List (List ℕ)). zs ++ further) are ∙ append_assoc h.first h.later further,
      )
  | inr (none, all, end, are) ↦
      let read : bytes ≡ h.before ++ h.last = h.front ∙ ap (λ (zs : List ℕ). (h.before ++ h.last) ++ zs) all ∙ append-nil (h.before ++ h.last) in
      (h.lines, h.part, h.later, subst (λ (zs : List ℕ). Splits zs h.lines h.part) (sym read) h.split, are)
]

-- ---- watched writers

-- what is sent to a watched writer leaves the same writer watched
module _ {W : Type 0} (contents : W → Option (List ℕ)) (wrote : W → List ℕ → Result ℕ Error → W → Type 0) (flushed : W → Result (Unit {0}) Error → W → Type 0)
  where
    abbrev Takes : Watched W → List ℕ → Watched W → Type 0
    Takes = WatchedTakes contents wrote

    abbrev Fails : Watched W → List ℕ → Watched W → Type 0
    Fails = WatchedFails contents wrote

    abbrev Flushed : Watched W → Watched W → Type 0
    Flushed = WatchedFlushes contents flushed

    abbrev FlushFailed : Watched W → Watched W → Type 0
    FlushFailed = WatchedFlushFails contents flushed

    turns_same : (s : Watched W) (uses : List Use) (t : Watched W) → FoldsTo (Uses Takes Flushed) s uses t → SameWriter s t
    turns_same s [] t p = sym (ap writer_loan p)
    turns_same s (put a ∷ uses) t (mid, p, later) = turns_same mid uses t later ∙ p.same
    turns_same s (flush ∷ uses) t (mid, p, later) = turns_same mid uses t later ∙ p.same

    pub delivers_same : (s : Watched W) (text : List ℕ) (t : Watched W) → Delivers Takes Flushed s text t → SameWriter s t
    delivers_same s text t (sent, p, q) = q.same ∙ turns_same s p.uses sent p.turns

    pub broke_watched : (s : Watched W) (text : List ℕ) (t : Watched W) → BrokeOn Takes Fails Flushed FlushFailed s text t
        → SameWriter s t × WriterBroke wrote flushed (watched_writer s) text (watched_writer t)
    broke_watched s text t h =
        let first = turns_same s h.sends.uses h.sent h.sends.turns in
        let sent = watched_writer h.sent in
        let sends = watched_sends contents wrote flushed s h.front h.sent h.sends in
        elim h.fault [
          | inl (rest, is, failed) ↦ (failed.same ∙ first, record { front = h.front; sent = sent; sends = sends; fault = inl (rest, is, failed.broke) })
          | inr (is, (refused, flushing)) ↦
              (flushing.same ∙ first, record { front = h.front; sent = sent; sends = sends; fault = inr (is, (refused, flushing.passed)) })
        ]

    pub told_same : (s : Watched W) (text : List ℕ) (t : Watched W) → TakesOrFails Takes Fails s text t → SameWriter s t
    told_same s text t (inl p) = p.same
    told_same s text t (inr p) = p.same

    pub told_writer : (s : Watched W) (text : List ℕ) (t : Watched W) → TakesOrFails Takes Fails s text t
        → WriterTakesOrFails contents wrote (watched_writer s) text (watched_writer t)
    told_writer s text t (inl p) = inl (p.grows, p.passed)
    told_writer s text t (inr p) = inr p.broke
