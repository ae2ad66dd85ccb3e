-- What a stretch from the start on says of the whole input, which is read piece by piece.
use Rattle.std.proofs.Common.{◌≡◌, ℕ, ◌+◌, ◌-◌, ◌^◌, ◌≤◌, Bool, true, false, ◌||◌, ◌⊎◌, inl, inr, List, [], ◌∷◌, ◌++◌, length}
use Rattle.std.proofs.Common.{map, codes, Option, None, Some, cond, Result, Ok, Err, IfOk, IfErr, sym, ◌∙◌, ap, subst, refl, append_assoc, append-nil}
use Rattle.std.proofs.Common.{arith, length-append}
use Rattle.std.proofs.{lemmas.List.length-map, lemmas.List.map-append}
use Rattle.std.specs.List.{flat_map}
use Rattle.tera_meaning.specs.{Outcome.Outcome, State.State}
use Rattle.tera_script.specs.Line.{IsBad}
use Rattle.tera_report.specs.{Report.Report, Report.report_text, Sink.Sends}
use Rattle.tera_report.proofs.SentLaws.{sends_joined}
use Rattle.tera_replies.specs.declared.fault.Fault.TheVariants.{BadLine, ReadFailed, WriteFailed, OutOfMemory}
use Rattle.tera_replies.specs.Stretch.{bad_at, Runs, LineStops}
use Rattle.tera_replies.specs.Stretch.{Place, Goes, StopsAtBad, Begins, start}
use Rattle.tera_replies.specs.inner.Endings.{Ends}
use Rattle.tera_replies.specs.Replay.{lines_given, AllAnswered, HoldFewer, IsBehind, IsWholeIn, ReadEnough, ReadingFailed, MemoryFailed}
use Rattle.tera_replies.specs.Replay.{WritingFailed, AreAnswered, report}
use Rattle.tera_replies.specs.{Script.BadLine as Bad, Script.Script, Script.Splits, Script.without_return, Script.last_line, Script.ended}
use Rattle.tera_replies.specs.{Script.line_feed, Reply.AreReplies, Source.EndIsTold}
use Rattle.tera_replies.specs.{Source.MayErr, declared.fault.Fault.Fault, Output.BrokeOn, Streams.Input}
use Rattle.tera_replies.proofs.StretchLemmas.{Runs-append, Script-append, Script-front, Begins-later, stops_later, Halts, Went, sent_still, Splits-more}
use Rattle.tera_replies.proofs.StretchLemmas.{Splits-same, splits, split_line}
use Rattle.tera_replies.proofs.ReplyLemmas.{broke_on_later}

-- ---- what an output that broke was to get

-- the first of the lines are among those given
pub first_given : (fails : Option Bool) (xs ys : List (List ℕ)) (part : List ℕ) → (more : List (List ℕ))
    × (lines_given fails (xs ++ ys) part ≡ map without_return xs ++ (map without_return ys ++ more))
first_given (Some true) xs ys part = ([], simp (map-append, append-nil))
first_given (Some false) xs ys part = (last_line part, simp (map-append, append_assoc))
first_given None xs ys part = (last_line part, simp (map-append, append_assoc))

-- a beginning of some bytes holds no more whole lines than these
pub fewer_in_front : {bytes before : List ℕ} {lines : List (List ℕ)} {part : List ℕ} (more : List ℕ) → Splits bytes lines part
    → bytes ≡ before ++ more → HoldFewer before (1 + length lines)
fewer_in_front {bytes} {before} {lines} {part} more split front =
    let (ls, p, s) = splits before in
    let (ms, q, t) = splits (p ++ more) in
    let all = Splits-more ls ms s.each t (front ∙ ap (λ (zs : List ℕ). zs ++ more) s.whole ∙ append_assoc (flat_map ended ls) p more) in
    let same = Splits-same bytes part q lines (ls ++ ms) split all in
    (ls, p, s, omega (arith, ap length same.0, length-append ls ms))

pub fewer_yet : {bytes : List ℕ} {n m : ℕ} → n ≤ m → HoldFewer bytes n → HoldFewer bytes m
fewer_yet most (lines, part, split, few) = (lines, part, split, omega (arith, most, few))

-- each whole line is given
whole_given : (fails : Option Bool) (lines : List (List ℕ)) (part : List ℕ) → length lines ≤ length (lines_given fails lines part)
whole_given (Some true) lines part = omega (arith, length-map lines without_return)
whole_given (Some false) lines part =
    omega (arith, length-map lines without_return, length-append (map without_return lines) (last_line part))
whole_given None lines part = omega (arith, length-map lines without_return, length-append (map without_return lines) (last_line part))

abbrev WasRead : Option Bool → Input → List ℕ → List ℕ → List ℕ → Type 0
WasRead fails input before last rest =
    input.gave before last ⊎ ((last ≡ []) × (((rest ≡ []) × input.ended before) ⊎ (MayErr fails (Some rest) × input.failed before)))

module _ {input : Input} where
  -- replies to the first lines of a beginning of the bytes
  among_given : (bytes given rest out : List ℕ) (fails : Option Bool) (lines first later : List (List ℕ)) (part : List ℕ) (outcomes : List Outcome)
      (before last : List ℕ) → bytes ≡ given ++ rest → given ≡ before ++ last → WasRead fails input before last rest
      → HoldFewer before (1 + length first) → Splits given lines part → map without_return lines ≡ first ++ later
      → AreAnswered first None outcomes → AreReplies outcomes out
      → WritingFailed bytes fails input out
  among_given bytes given rest out fails lines first later part outcomes before last front are_read read prompt split are answers replied = record {
    before = before;
    last = last;
    rest = rest;
    lines = lines;
    part = part;
    first = first;
    later = later;
    bad = None;
    outcomes = outcomes;
    front = front ∙ ap (λ (zs : List ℕ). zs ++ rest) are_read;
    read = read;
    split = subst (λ (zs : List ℕ). Splits zs lines part) are_read split;
    lines_are = inl are;
    prompt = prompt;
    fresh = tt;
    answers = answers;
    replied = replied;
  }

  -- replies to all lines up to a bad one that was given whole
  broke_in_given : (bytes out : List ℕ) (fails : Option Bool) (lines : List (List ℕ)) (part : List ℕ) (bad : Option Bad) (outcomes : List Outcome)
      (before last rest : List ℕ) → bytes ≡ (before ++ last) ++ rest → input.gave before last → IsBehind before bad → IsWholeIn (before ++ last) bad
      → Splits bytes lines part → AreAnswered (lines_given fails lines part) bad outcomes → AreReplies outcomes out
      → WritingFailed bytes fails input out
  broke_in_given bytes out fails lines part None outcomes before last rest front gave behind whole all answers replied = absurd whole
  broke_in_given bytes out fails lines part (Some bad) outcomes before last rest front gave behind (whole, end, split, within) all answers replied =
      let (others, beyond, s) = splits (end ++ rest) in
      let joined = Splits-more whole others split.each s
      (front ∙ ap (λ (zs : List ℕ). zs ++ rest) split.whole ∙ append_assoc (flat_map ended whole) end rest) in
      let (same, also) = Splits-same bytes part beyond lines (whole ++ others) all joined in
      let (more, among) = first_given fails whole others beyond in
      let first = map without_return whole in
      let later = map without_return others ++ more in
      let given : lines_given fails lines part ≡ first ++ later = rw (same, also) among in
      let script = subst (λ (zs : List (List ℕ)). Script 1 zs answers.commands (Some bad)) given answers.script in
      let many = length-map whole without_return in
      record {
        before = before;
        last = last;
        rest = rest;
        lines = whole;
        part = end;
        first = first;
        later = [];
        bad = Some bad;
        outcomes = outcomes;
        front = front;
        read = inl gave;
        split = split;
        lines_are = inl (sym (append-nil first));
        prompt = fewer_yet (omega (arith, many)) (fewer_in_front last split refl);
        fresh = behind;
        answers = record {
          commands = answers.commands;
          state = answers.state;
          script = Script-front 1 first later answers.commands bad script (omega (arith, within, many));
          run = answers.run;
        };
        replied = replied;
      }

  -- the replies that were due are, however the input ended, those to the first of the lines
  pub broke_at_end : {bytes out err : List ℕ} {fails : Option Bool} {status : ℕ} → AllAnswered bytes fails input out err status
      → WritingFailed bytes fails input out
  broke_at_end {bytes} {out} {err} {fails} h = elim h.read [
    | inl (end, behind) ↦ record {
      before = bytes;
      last = [];
      rest = [];
      lines = h.lines;
      part = h.part;
      first = lines_given fails h.lines h.part;
      later = [];
      bad = h.bad;
      outcomes = h.outcomes;
      front = sym (append-nil (bytes ++ []) ∙ append-nil bytes);
      read = inr (refl, inl (refl, end));
      split = subst (λ (zs : List ℕ). Splits zs h.lines h.part) (sym (append-nil bytes)) h.split;
      lines_are = inr (refl, refl, end, sym (append-nil (lines_given fails h.lines h.part)));
      prompt = fewer_yet {n = 1 + length h.lines} (omega (arith, whole_given fails h.lines h.part)) (h.lines, h.part, h.split, omega arith);
      fresh = behind;
      answers = h.answers;
      replied = h.replied;
    }
    | inr (before, last, rest, front, gave, behind, whole) ↦
        broke_in_given bytes out fails h.lines h.part h.bad h.outcomes before last rest front gave behind whole h.split h.answers h.replied
  ]

  pub broke_at_failure : {bytes out err : List ℕ} {fails : Option Bool} {status : ℕ} → ReadingFailed bytes fails input out err status
      → WritingFailed bytes fails input out
  broke_at_failure {bytes} {out} {err} {fails} h =
      let all = map without_return h.lines in
      let many = length-map h.lines without_return in
      let broke = λ (before last : List ℕ) (are : h.given ≡ before ++ last) (read : WasRead fails input before last h.rest).
      among_given bytes h.given h.rest out fails h.lines all [] h.part h.outcomes before last h.front are read
      (fewer_yet (omega (arith, many)) (fewer_in_front last h.split are)) h.split (sym (append-nil all)) h.answers h.replied in
      elim h.cause [
        | inl (may, failed) ↦ broke h.given [] (sym (append-nil h.given)) (inr (refl, inr (may, failed)))
        | inr (long, (before, last, are, gave)) ↦ broke before last are (inl gave)
      ]

  pub broke_at_memory : {bytes out err : List ℕ} {status : ℕ} (fails : Option Bool) → MemoryFailed bytes input out err status
      → WritingFailed bytes fails input out
  broke_at_memory {bytes} {out} fails h =
      among_given bytes (h.before ++ h.last) h.rest out fails h.lines h.first h.later h.part h.outcomes h.before h.last h.front refl
      (elim h.read [ inl gave ↦ inl gave | inr (none, all, end) ↦ inr (none, inl (all, end)) ]) h.prompt h.split h.lines_are h.answers h.replied

-- ---- how the input ended

-- a source that tells its end gives what follows the last line feed
all_given : (fails : Option Bool) (lines : List (List ℕ)) (part : List ℕ) → EndIsTold fails
    → lines_given fails lines part ≡ map without_return lines ++ last_line part
all_given (Some true) lines part told = absurd told
all_given (Some false) lines part told = refl
all_given None lines part told = refl

counted : {bytes text : List ℕ} {p : Place} (g : Goes start bytes text p) → p.number ≡ 1 + length (map without_return g.lines)
counted g = omega (arith, g.number_is, length-map g.lines without_return)

-- the bytes, as the whole lines so far, the part at hand, and more
regrouped : {bytes read text : List ℕ} {p : Place} (more : List ℕ) (g : Goes start read text p) → bytes ≡ read ++ more
    → bytes ≡ flat_map ended g.lines ++ (p.part ++ more)
regrouped {p} more g e = e ∙ ap (λ (zs : List ℕ). zs ++ more) g.split ∙ append_assoc (flat_map ended g.lines) p.part more

whole_lines : {read text : List ℕ} {p : Place} (g : Goes start read text p) → Splits read g.lines p.part
whole_lines g = record { whole = g.split; each = g.each; rest = g.rest }

-- a beginning of what was answered holds no more whole lines than were answered
ahead : {before read text : List ℕ} {p : Place} (more : List ℕ) (g : Goes start read text p) → read ≡ before ++ more
    → HoldFewer before (1 + length (map without_return g.lines))
ahead more g e = fewer_yet (omega (arith, length-map g.lines without_return)) (fewer_in_front more (whole_lines g) e)

-- the input ended
pub at_end : {bytes text more : List ℕ} {p : Place} {v : Bool} {new : State} (fails : Option Bool) (input : Input)
    → input.ended bytes → EndIsTold fails → Goes start bytes text p → Runs p.number p.state (last_line p.part) more v new
    → AllAnswered bytes fails input (text ++ more) [] (cond (p.wanted || v) 1 0)
at_end {p} {v} {new} fails input end told g h =
    let all = Runs-append g.runs (counted g) h in
    record {
      lines = g.lines;
      part = p.part;
      bad = None;
      outcomes = all.outcomes;
      split = whole_lines g;
      answers = record { commands = all.commands; state = new; script = rw (all_given fails g.lines p.part told) all.script; run = all.run };
      ended = λ is. absurd (subst EndIsTold is told);
      read = inl (end, tt);
      replied = all.replied;
      err_is = refl;
      status_is = ap (λ (w : Bool). cond (w || v) 1 0) g.wanted_is ∙ ap (λ (w : Bool). cond w 1 0) all.wanted_is;
    }

-- a line behind the whole ones is bad
bad_answered : {bytes read text : List ℕ} {p : Place} (fails : Option Bool) (input : Input)
    (g : Goes start read text p) (line : List ℕ) (lines more : List (List ℕ)) (part : List ℕ) → Splits bytes lines part
    → lines_given fails lines part ≡ map without_return g.lines ++ line ∷ more → IsBad line
    → ReadEnough bytes (Some (bad_at p.number line)) input
    → AllAnswered bytes fails input text (report (Some (bad_at p.number line))) 2
bad_answered {p} fails input g line lines more part split given bad enough =
    let script = rw (append-nil g.runs.commands) at (Script-append 1 (map without_return g.lines) (line ∷ more) g.runs.commands []
    (Some (bad_at p.number line)) g.runs.script p.number (counted g) (inr (inr (bad, refl, refl)))) in
    record {
      lines = lines;
      part = part;
      bad = Some (bad_at p.number line);
      outcomes = g.runs.outcomes;
      split = split;
      answers = record { commands = g.runs.commands; state = p.state; script = rw given script; run = g.runs.run };
      ended = λ is. refl;
      read = enough;
      replied = g.runs.replied;
      err_is = refl;
      status_is = refl;
    }

-- a bad line stands whole in what was read
whole_in : {given text : List ℕ} {r : Report} (s : StopsAtBad start given r text)
    → IsWholeIn given (Some (bad_at s.place.number (without_return s.place.part)))
whole_in s =
    let g = s.goes in
    let part = s.place.part in
    let (later, end, split) = split_line part s.unread g.rest in (
      g.lines ++ part ∷ later,
      end,
      Splits-more g.lines (part ∷ later) g.each split (regrouped (line_feed ∷ s.unread) g s.bytes_are),
      omega (arith, counted g, length-map g.lines without_return, length-append g.lines (part ∷ later)),
    )

-- a line that ends with a line feed is bad
pub at_bad : {bytes before last text : List ℕ} {r : Report} (rest beyond : List ℕ) (fails : Option Bool) (input : Input)
    → input.gave before last → bytes ≡ (before ++ last) ++ rest → (s : StopsAtBad start (before ++ last) r text)
    → s.read ≡ before ++ beyond → AllAnswered bytes fails input text (ended (report_text r)) 2
at_bad {bytes} {before} {last} rest beyond fails input gave e s front =
    let part = s.place.part in
    let (later, end, split) = split_line part (s.unread ++ rest) s.goes.rest in
    let (more, among) = first_given fails s.goes.lines (part ∷ later) end in
    let whole : bytes ≡ s.read ++ line_feed ∷ (s.unread ++ rest) =
    e ∙ ap (λ (zs : List ℕ). zs ++ rest) s.bytes_are ∙ append_assoc s.read (line_feed ∷ s.unread) rest in
    rw s.report_is (bad_answered fails input s.goes (without_return part) (s.goes.lines ++ part ∷ later) (map without_return later ++ more) end
    (Splits-more s.goes.lines (part ∷ later) s.goes.each split (regrouped (line_feed ∷ s.unread ++ rest) s.goes whole)) among s.bad
    (inr (before, last, rest, e, gave, fewer_yet (omega (arith, counted s.goes)) (ahead beyond s.goes front), whole_in s)))

-- what follows the last line feed is bad
pub at_bad_end : {bytes text : List ℕ} {p : Place} (fails : Option Bool) (input : Input)
    → input.ended bytes → EndIsTold fails → Goes start bytes text p → last_line p.part ≡ p.part ∷ [] → IsBad p.part
    → AllAnswered bytes fails input text (report (Some (bad_at p.number p.part))) 2
at_bad_end {p} fails input end told g whole bad =
    bad_answered fails input g p.part g.lines [] p.part (whole_lines g)
    (all_given fails g.lines p.part told ∙ ap (λ (zs : List (List ℕ)). map without_return g.lines ++ zs) whole) bad
    (inl (end, (g.lines, p.part, whole_lines g, omega (arith, counted g, length-map g.lines without_return))))

-- no memory was found
at_memory : {bytes before last text : List ℕ} (rest more : List ℕ) (input : Input)
    → bytes ≡ (before ++ last) ++ rest → input.gave before last ⊎ ((last ≡ []) × (rest ≡ []) × input.ended before) → (s : Begins start (before ++ last) text)
    → s.read ≡ before ++ more → MemoryFailed bytes input text (codes "error: Out of memory\n") 1
at_memory {bytes} {before} {last} rest more input e read s begins =
    let g = s.goes in
    let (later, end, split) = splits (s.place.part ++ s.unread) in
    record {
      before = before;
      last = last;
      rest = rest;
      front = e;
      read = read;
      prompt = ahead more g begins;
      lines = g.lines ++ later;
      part = end;
      first = map without_return g.lines;
      later = map without_return later;
      outcomes = g.runs.outcomes;
      split = Splits-more g.lines later g.each split (regrouped s.unread g s.bytes_are);
      lines_are = map-append without_return g.lines later;
      answers = record { commands = g.runs.commands; state = s.place.state; script = g.runs.script; run = g.runs.run };
      replied = g.runs.replied;
      err_is = refl;
      status_is = refl;
    }

-- a write of a reply to the first lines failed
pub at_write : {bytes before last text : List ℕ} (rest more : List ℕ) (fails : Option Bool) (input : Input)
    → bytes ≡ (before ++ last) ++ rest → input.gave before last → (s : Begins start (before ++ last) text)
    → s.read ≡ before ++ more → WritingFailed bytes fails input text
at_write rest more fails input e gave s begins = broke_at_memory fails (at_memory rest more input e (inl gave) s begins)

-- reading failed
pub at_failure : {bytes given text : List ℕ} {fails : Option Bool} {input : Input} {p : Place}
    (rest : List ℕ) → bytes ≡ given ++ rest
    → (MayErr fails (Some rest) × input.failed given)
    ⊎ ((2 ^ 64 - 1 ≤ length given) × ((before : List ℕ) × (last : List ℕ) × (given ≡ before ++ last) × input.gave before last)) → Goes start given text p
    → ReadingFailed bytes fails input text (codes "error: reading failed\n") 1
at_failure {given} {p} rest e cause g = record {
  given = given;
  rest = rest;
  lines = g.lines;
  part = p.part;
  outcomes = g.runs.outcomes;
  front = e;
  cause = cause;
  split = whole_lines g;
  answers = record { commands = g.runs.commands; state = p.state; script = g.runs.script; run = g.runs.run };
  replied = g.runs.replied;
  err_is = refl;
  status_is = refl;
}

module _ {S : Type 0} (takes fails_on : S → List ℕ → S → Type 0) (flushes flush_fails : S → S → Type 0) where
  -- a fault in what the last read gave ended the whole
  pub Ends-stops : {bytes given : List ℕ} {now : Place} {before mid : S} (last rest : List ℕ) (fails : Option Bool)
      (input : Input) (after : S) (fault : Fault) → bytes ≡ (given ++ last) ++ rest
      → input.gave given last → Went takes flushes start given now before mid → Halts takes fails_on flushes flush_fails now last mid after fault
      → Ends bytes fails input (λ text. Sends takes flushes before text after)
      (λ text. BrokeOn takes fails_on flushes flush_fails before text after) (Err fault)
  Ends-stops last rest fails input after (BadLine r) e gave (front, goes, passed) (text, s, sent) = (
    front ++ text,
    at_bad rest s.read fails input gave e (stops_later goes s) refl,
    sends_joined takes flushes _ _ _ _ _ passed sent,
  )
  Ends-stops last rest fails input after ReadFailed e gave went stops = absurd stops
  Ends-stops last rest fails input after WriteFailed e gave (front, goes, passed) (text, s, broke) = (
    front ++ text,
    at_write rest s.read fails input e gave (Begins-later goes s) refl,
    broke_on_later passed broke,
  )
  Ends-stops last rest fails input after OutOfMemory e gave (front, goes, passed) (text, s, sent) = (
    front ++ text,
    at_memory rest s.read input e (inl gave) (Begins-later goes s) refl,
    sends_joined takes flushes _ _ _ _ _ passed sent,
  )

  -- all of the input was read, and what follows the last line feed was answered, or a fault ended it
  pub Ends-all : {bytes : List ℕ} {now : Place} {before mid : S} (fails : Option Bool) (input : Input) (new : State) (after : S) (result : Result Bool Fault)
      → Went takes flushes start bytes now before mid → input.ended bytes → EndIsTold fails
      → IfOk result (λ wanted. (text : List ℕ) × (last : Bool) × Runs now.number now.state (last_line now.part) text last new
      × (wanted ≡ (now.wanted || last)) × Sends takes flushes mid text after)
      → IfErr result (λ fault. (last_line now.part ≡ now.part ∷ []) × LineStops now.number now.state now.part new (Sends takes flushes mid [] after)
      (λ text. BrokeOn takes fails_on flushes flush_fails mid text after) fault)
      → Ends bytes fails input (λ text. Sends takes flushes before text after)
      (λ text. BrokeOn takes fails_on flushes flush_fails before text after) result
  Ends-all fails input new after (Ok wanted) (front, goes, passed) end told (text, last, runs, is, sent) err =
      (front ++ text, rw is (at_end fails input end told goes runs), sends_joined takes flushes _ _ _ _ _ passed sent)
  Ends-all {bytes} fails input new after (Err (BadLine r)) (front, goes, passed) end told ok (whole, (is, bad, sent)) =
      let P : Report → Type 0 = λ said. AllAnswered bytes fails input front (ended (report_text said)) 2 in
      (front, subst P (sym is) (at_bad_end fails input end told goes whole bad), sent_still passed sent)
  Ends-all fails input new after (Err ReadFailed) p end told ok (whole, stops) = absurd stops
  Ends-all fails input new after (Err WriteFailed) (front, goes, passed) end told ok (whole, (text, wanted, runs, broke)) =
      (front ++ text, broke_at_end (at_end {v = wanted} {new = new} fails input end told goes (rw whole runs)), broke_on_later passed broke)
  Ends-all {bytes} {now} fails input new after (Err OutOfMemory) (front, goes, passed) end told ok (whole, sent) =
      let all : bytes ≡ (bytes ++ []) ++ [] = sym (append-nil (bytes ++ []) ∙ append-nil bytes) in
      let begins : Begins start (bytes ++ []) front =
      record { read = bytes; unread = []; place = now; bytes_are = refl; goes = goes } in
      (front, at_memory [] [] input all (inr (refl, refl, end)) begins (sym (append-nil bytes)), sent_still passed sent)
