-- Bytes as lines, what lines say, and one run and one stretch of a script after another.
use Rattle.std.proofs.Common.{◌≡◌, ◌≢◌, ℕ, ◌+◌, List, [], ◌∷◌, ◌++◌, All, Option, length, sym, ◌∙◌, ap, refl, append_assoc, append-nil, length-append, inl, inr}
use Rattle.std.proofs.Common.{arith, Bool, false, ◌||◌, ◌<◌, ◌≤◌, None, Some, subst}
use Rattle.std.proofs.lemmas.List.Elements.{All-append, All-cons, All-nil, All-head, All-tail, All-get_or}
use Rattle.std.proofs.{lemmas.List.get_or_at, lemmas.List.length-map, lemmas.List.map-append, lemmas.List.Concat.flat_map-append}
use Rattle.std.proofs.{lemmas.List.Folds.list_any-append, lemmas.Bool.cases_eq}
use Rattle.std.specs.List.{flat_map, AllZip}
use Rattle.tera_meaning.specs.{Outcome.Outcome, Outcome.is_want, Request.Command, State.State, Step.IsStep, Run.IsRun}
use Rattle.tera_script.specs.Line.{Says, IsSkipped}
use Rattle.tera_replies.specs.Script.{BadLine as Bad, Script, Splits, HasNoLineFeed, ended, line_feed, without_return}
use Rattle.tera_replies.specs.declared.fault.Fault.TheVariants.{BadLine, ReadFailed, WriteFailed, OutOfMemory}
use Rattle.tera_replies.specs.{Stretch.Runs, Stretch.Place, Stretch.Goes, Stretch.Begins}
use Rattle.tera_replies.specs.{Stretch.StopsAtBad, Stretch.Stops, Stretch.LineStops}
use Rattle.tera_replies.specs.{Reply.IsReply, Reply.AreReplies, declared.fault.Fault.Fault, Output.BrokeOn}
use Rattle.tera_report.specs.{Report.Report, Sink.Sends}
use Rattle.tera_report.proofs.SentLaws.{sends_nothing, sends_flush, sends_joined}
use Rattle.tera_replies.proofs.ReplyLemmas.{broke_on_later}

-- ---- lines

-- lines before a split
pub Splits-more : (first lines : List (List ℕ)) {bytes front part : List ℕ} → All HasNoLineFeed first → Splits bytes lines part
    → front ≡ flat_map ended first ++ bytes → Splits front (first ++ lines) part
Splits-more first lines {part} each s e = record {
  whole = cc (append_assoc (flat_map ended first) (flat_map ended lines) part, flat_map-append ended first lines);
  each = All-append HasNoLineFeed first lines each s.each;
  rest = s.rest;
}

abbrev SomeSplit : List ℕ → Type 0
SomeSplit bytes = (lines : List (List ℕ)) × (part : List ℕ) × Splits bytes lines part

-- one more byte in front, which isn't a line feed
with_byte : (b : ℕ) (bs : List ℕ) (lines : List (List ℕ)) (part : List ℕ) → b ≢ line_feed → Splits bs lines part → SomeSplit (b ∷ bs)
with_byte b bs [] part ne s =
    ([], b ∷ part, record { whole = cc s.whole; each = s.each; rest = All-cons (λ byte. byte ≢ line_feed) b part ne s.rest })
with_byte b bs (line ∷ lines) part ne s =
    let longer = All-cons (λ byte. byte ≢ line_feed) b line ne (All-head HasNoLineFeed line lines s.each) in
    let each = All-cons HasNoLineFeed (b ∷ line) lines longer (All-tail HasNoLineFeed line lines s.each) in
    ((b ∷ line) ∷ lines, part, record { whole = cc s.whole; each = each; rest = s.rest })

pub splits : (bytes : List ℕ) → SomeSplit bytes
splits [] = ([], [], record { whole = refl; each = All-nil HasNoLineFeed; rest = All-nil (λ byte. byte ≢ line_feed) })
splits (b ∷ bs) =
    let (lines, part, s) = splits bs in
    elim (cases_eq b line_feed) [
      | inl is ↦
          let each = All-cons HasNoLineFeed [] lines (All-nil (λ byte. byte ≢ line_feed)) s.each in
          ([] ∷ lines, part, record { whole = (λ i. is i ∷ s.whole i); each = each; rest = s.rest })
      | inr ne ↦ with_byte b bs lines part ne s
    ]

-- a whole line, and the split of the bytes after it
pub split_line : (line unread : List ℕ) → HasNoLineFeed line
    → (lines : List (List ℕ)) × (part : List ℕ) × Splits (line ++ line_feed ∷ unread) (line ∷ lines) part
split_line line unread h =
    let (lines, part, s) = splits unread in (
      lines,
      part,
      Splits-more (line ∷ []) lines (All-cons HasNoLineFeed line [] h (All-nil HasNoLineFeed)) s
          (sym (ap (λ (xs : List ℕ). xs ++ unread) (append-nil (ended line)) ∙ append_assoc line (line_feed ∷ []) unread)),
    )

-- two lines at the front of the same bytes are one
first_line : (l m x y : List ℕ) → HasNoLineFeed l → HasNoLineFeed m → l ++ line_feed ∷ x ≡ m ++ line_feed ∷ y → (l ≡ m) × (x ≡ y)
first_line [] [] x y p q e = (refl, cc)
first_line [] (b ∷ m) x y p q e = absurd (All-head (λ byte. byte ≢ line_feed) b m q (let is : b ≡ line_feed = cc in is))
first_line (a ∷ l) [] x y p q e = absurd (All-head (λ byte. byte ≢ line_feed) a l p (let is : a ≡ line_feed = cc in is))
first_line (a ∷ l) (b ∷ m) x y p q e =
    let more = first_line l m x y (All-tail (λ byte. byte ≢ line_feed) a l p) (All-tail (λ byte. byte ≢ line_feed) b m q) (cc) in
    (cc more.0, more.1)

-- no whole line is in a part of one
part_has_none : (part m y : List ℕ) → HasNoLineFeed part → part ≡ m ++ line_feed ∷ y → ⊥
part_has_none part m y p e =
    All-get_or (λ byte. byte ≢ line_feed) part (length m) 0 (omega (arith, ap length e, length-append m (line_feed ∷ y))) p
    (rw e (get_or_at m line_feed y 0 (length m) refl))

-- the first line stands in front of the others
regroup : (m : List ℕ) (ms : List (List ℕ)) (q : List ℕ) → flat_map ended (m ∷ ms) ++ q ≡ m ++ line_feed ∷ (flat_map ended ms ++ q)
regroup m ms q = append_assoc (ended m) (flat_map ended ms) q ∙ append_assoc m (line_feed ∷ []) (flat_map ended ms ++ q)

same_lines : (xs ys : List (List ℕ)) (p q : List ℕ) → All HasNoLineFeed xs → All HasNoLineFeed ys → HasNoLineFeed p → HasNoLineFeed q
    → flat_map ended xs ++ p ≡ flat_map ended ys ++ q → (xs ≡ ys) × (p ≡ q)
same_lines [] [] p q xs_in ys_in p_in q_in e = (refl, e)
same_lines [] (y ∷ ys) p q xs_in ys_in p_in q_in e = absurd (part_has_none p y (flat_map ended ys ++ q) p_in (e ∙ regroup y ys q))
same_lines (x ∷ xs) [] p q xs_in ys_in p_in q_in e = absurd (part_has_none q x (flat_map ended xs ++ p) q_in (sym e ∙ regroup x xs p))
same_lines (x ∷ xs) (y ∷ ys) p q xs_in ys_in p_in q_in e =
    let first = first_line x y (flat_map ended xs ++ p) (flat_map ended ys ++ q) (All-head HasNoLineFeed x xs xs_in) (All-head HasNoLineFeed y ys ys_in)
    (sym (regroup x xs p) ∙ e ∙ regroup y ys q) in
    let more = same_lines xs ys p q (All-tail HasNoLineFeed x xs xs_in) (All-tail HasNoLineFeed y ys ys_in) p_in q_in first.1 in
    ((λ i. first.0 i ∷ more.0 i), more.1)

pub Splits-same : (bytes part other : List ℕ) (lines others : List (List ℕ)) → Splits bytes lines part → Splits bytes others other
    → (lines ≡ others) × (part ≡ other)
Splits-same bytes part other lines others s t = same_lines lines others part other s.each t.each s.rest t.rest (sym s.whole ∙ t.whole)

module _ (one : (line : List ℕ) (first second : Command) → Says line first → Says line second → first ≡ second)
    (silent : (line : List ℕ) (command : Command) → IsSkipped line → ¬ Says line command) where
  pub one_script : (n : ℕ) (lines : List (List ℕ)) (commands others : List Command) (bad other : Option Bad) → Script n lines commands bad
      → Script n lines others other → (commands ≡ others) × (bad ≡ other)
  one_script n [] commands others bad other h g = (h.0 ∙ sym g.0, h.1 ∙ sym g.1)
  one_script n (line ∷ lines) commands others bad other (inl (skip, h)) (inl (also, g)) = one_script (n + 1) lines commands others bad other h g
  one_script n (line ∷ lines) commands others bad other (inl (skip, h)) (inr (inl (first, later, says, is, g))) = absurd (silent line first skip says)
  one_script n (line ∷ lines) commands others bad other (inl (skip, h)) (inr (inr (wrong, ends, at))) = absurd (wrong.0 skip)
  one_script n (line ∷ lines) commands others bad other (inr (inl (first, later, says, is, h))) (inl (skip, g)) = absurd (silent line first skip says)
  one_script n (line ∷ lines) commands others bad other (inr (inl (first, later, says, is, h))) (inr (inl (second, rest, also, alike, g))) =
      let same = one line first second says also in
      let more = one_script (n + 1) lines later rest bad other h g in
      (is ∙ (λ i. same i ∷ more.0 i) ∙ sym alike, more.1)
  one_script n (line ∷ lines) commands others bad other (inr (inl (first, later, says, is, h))) (inr (inr (wrong, ends, at))) = absurd (wrong.1 first says)
  one_script n (line ∷ lines) commands others bad other (inr (inr (wrong, ends, at))) (inl (skip, g)) = absurd (wrong.0 skip)
  one_script n (line ∷ lines) commands others bad other (inr (inr (wrong, ends, at))) (inr (inl (first, later, says, is, g))) = absurd (wrong.1 first says)
  one_script n (line ∷ lines) commands others bad other (inr (inr (wrong, ends, at))) (inr (inr (also, stops, place))) = (ends ∙ sym stops, at ∙ sym place)

-- ---- runs

IsRun-append : (a b c : State) (xs ys : List Command) (os ps : List Outcome) → IsRun a xs os b → IsRun b ys ps c → IsRun a (xs ++ ys) (os ++ ps) c
IsRun-append a b c [] ys [] ps h g = let P : State → Type 0 = λ s. IsRun s ys ps c in subst P h g
IsRun-append a b c (x ∷ xs) ys (o ∷ os) ps h g = (h.0, h.1, IsRun-append h.0 b c xs ys os ps h.2 g)
IsRun-append a b c xs ys os ps h g = absurd h

-- with no bad line among the first ones, a script goes on
pub Script-append : (n : ℕ) (xs ys : List (List ℕ)) (cs ds : List Command) (bad : Option Bad) → Script n xs cs None → (m : ℕ) → m ≡ n + length xs
    → Script m ys ds bad → Script n (xs ++ ys) (cs ++ ds) bad
Script-append n [] ys cs ds bad (none, no_bad) m e g = let same : m ≡ n = omega arith in rw none (rw same at g)
Script-append n (x ∷ xs) ys cs ds bad (inl (skip, h)) m e g = inl (skip, Script-append (n + 1) xs ys cs ds bad h m (omega arith) g)
Script-append n (x ∷ xs) ys cs ds bad (inr (inl (first, later, says, is, h))) m e g =
    inr (inl (first, later ++ ds, says, rw is, Script-append (n + 1) xs ys later ds bad h m (omega arith) g))
Script-append n (x ∷ xs) ys cs ds bad (inr (inr (wrong, ends, at))) m e g = absurd (cc at)

-- a bad line bears no number below the first one
Script-from : (n : ℕ) (lines : List (List ℕ)) (cs : List Command) (bad : Bad) → Script n lines cs (Some bad) → n ≤ bad.number
Script-from n [] cs bad (none, no_bad) = absurd (cc no_bad)
Script-from n (line ∷ lines) cs bad (inl (skip, h)) = omega (arith, Script-from (n + 1) lines cs bad h)
Script-from n (line ∷ lines) cs bad (inr (inl (first, later, says, is, h))) = omega (arith, Script-from (n + 1) lines later bad h)
Script-from n (line ∷ lines) cs bad (inr (inr (wrong, ends, at))) =
    let same : bad ≡ record { number = n; line = line } = cc in omega (arith, ap (λ (b : Bad). b.number) same)

-- what lines say up to a bad one that is among the first of them is what these say
pub Script-front : (n : ℕ) (xs ys : List (List ℕ)) (cs : List Command) (bad : Bad) → Script n (xs ++ ys) cs (Some bad) → bad.number < n + length xs
    → Script n xs cs (Some bad)
Script-front n [] ys cs bad h within = absurd (omega (arith, Script-from n ys cs bad h, within))
Script-front n (x ∷ xs) ys cs bad (inl (skip, h)) within = inl (skip, Script-front (n + 1) xs ys cs bad h (omega (arith, within)))
Script-front n (x ∷ xs) ys cs bad (inr (inl (first, later, says, is, h))) within =
    inr (inl (first, later, says, is, Script-front (n + 1) xs ys later bad h (omega (arith, within))))
Script-front n (x ∷ xs) ys cs bad (inr (inr (wrong, ends, at))) within = inr (inr (wrong, ends, at))

pub or_false : (a : Bool) → a ≡ (a || false)
or_false a = grind arith

or_assoc : (a b c : Bool) → ((a || b) || c) ≡ (a || (b || c))
or_assoc a b c = grind arith

AllZip-append : (xs ys : List Outcome) (ss ts : List (List ℕ)) → AllZip IsReply xs ss → AllZip IsReply ys ts → AllZip IsReply (xs ++ ys) (ss ++ ts)
AllZip-append [] ys [] ts h g = g
AllZip-append (x ∷ xs) ys (s ∷ ss) ts h g = (h.0, AllZip-append xs ys ss ts h.1 g)
AllZip-append xs ys ss ts h g = absurd h

-- replies behind replies
AreReplies-append : (xs ys : List Outcome) (s t : List ℕ) → AreReplies xs s → AreReplies ys t → AreReplies (xs ++ ys) (s ++ t)
AreReplies-append xs ys s t (ls, h, e) (ms, g, f) = (ls ++ ms, AllZip-append xs ys ls ms h g, (λ i. e i ++ f i) ∙ sym (flat_map-append ended ls ms))

pub Runs-append : {n m : ℕ} {a b c : State} {xs ys : List (List ℕ)} {s t : List ℕ} {v w : Bool} → Runs n a xs s v b → m ≡ n + length xs
    → Runs m b ys t w c → Runs n a (xs ++ ys) (s ++ t) (v || w) c
Runs-append {n} {m} {a} {b} {c} {xs} {ys} {s} {t} g e h = record {
  commands = g.commands ++ h.commands;
  outcomes = g.outcomes ++ h.outcomes;
  script = Script-append n xs ys g.commands h.commands None g.script m e h.script;
  run = IsRun-append a b c g.commands h.commands g.outcomes h.outcomes g.run h.run;
  replied = AreReplies-append g.outcomes h.outcomes s t g.replied h.replied;
  wanted_is = (λ i. g.wanted_is i || h.wanted_is i) ∙ sym (list_any-append is_want g.outcomes h.outcomes);
}

-- lines that say nothing
pub Runs-silent : (n : ℕ) (a : State) (lines : List (List ℕ)) → Script n lines [] None → Runs n a lines [] false a
Runs-silent n a lines script = record { commands = []; outcomes = []; script = script; run = refl; replied = ([], tt, refl); wanted_is = refl }

pub Runs-says : (n : ℕ) (old new : State) (line text : List ℕ) (command : Command) (outcome : Outcome) → Says line command → IsStep old command outcome new
    → IsReply outcome text → Runs n old (line ∷ []) (ended text) (is_want outcome) new
Runs-says n old new line text command outcome says step replied = record {
  commands = command ∷ [];
  outcomes = outcome ∷ [];
  script = inr (inl (command, [], says, refl, (refl, refl)));
  run = (new, step, refl);
  replied = (text ∷ [], (replied, tt), sym (append-nil (ended text)));
  wanted_is = or_false (is_want outcome);
}

-- ---- stretches

-- two stretches are one
pub Goes-append : {a b c : Place} {xs ys s t : List ℕ} → Goes a xs s b → Goes b ys t c → Goes a (xs ++ ys) (s ++ t) c
Goes-append {a} {b} {c} {xs} {ys} g h = record {
  lines = g.lines ++ h.lines;
  wanted = g.wanted || h.wanted;
  split = cc (
    append_assoc a.part xs ys,
    append_assoc (flat_map ended g.lines) b.part ys,
    append_assoc (flat_map ended g.lines) (flat_map ended h.lines) c.part,
    flat_map-append ended g.lines h.lines,
  );
  each = All-append HasNoLineFeed g.lines h.lines g.each h.each;
  rest = h.rest;
  number_is = omega (arith, g.number_is, h.number_is, length-append g.lines h.lines);
  wanted_is = cc (or_assoc a.wanted g.wanted h.wanted);
  runs = rw (map-append without_return g.lines h.lines) (Runs-append g.runs (omega (arith, g.number_is, length-map g.lines without_return)) h.runs);
}

-- more of the line at hand
pub Goes-part : (a : Place) (more part : List ℕ) → HasNoLineFeed a.part → HasNoLineFeed more → part ≡ a.part ++ more
    → Goes a more [] (record a { part = part })
Goes-part a more part part_in more_in longer = record {
  lines = [];
  wanted = false;
  split = sym longer;
  each = All-nil HasNoLineFeed;
  rest = subst HasNoLineFeed (sym longer) (All-append (λ byte. byte ≢ line_feed) a.part more part_in more_in);
  number_is = omega arith;
  wanted_is = or_false a.wanted;
  runs = Runs-silent a.number a.state [] (refl, refl);
}

-- nothing is read
pub Goes-none : (a : Place) → HasNoLineFeed a.part → Goes a [] [] a
Goes-none a part_in = Goes-part a [] a.part part_in (All-nil (λ byte. byte ≢ line_feed)) (sym (append-nil a.part))

-- the end of the line at hand
pub Goes-line : (a new : Place) (more text : List ℕ) (w : Bool) → HasNoLineFeed a.part → HasNoLineFeed more
    → Runs a.number a.state (without_return (a.part ++ more) ∷ []) text w new.state
    → new.number ≡ a.number + 1 → new.part ≡ [] → new.wanted ≡ (a.wanted || w) → Goes a (ended more) text new
Goes-line a new more text w part_in more_in runs numbered emptied wanted = record {
  lines = (a.part ++ more) ∷ [];
  wanted = w;
  split = rw (emptied, append-nil, append-nil) (sym (append_assoc a.part more (line_feed ∷ [])));
  each = All-cons HasNoLineFeed (a.part ++ more) [] (All-append (λ byte. byte ≢ line_feed) a.part more part_in more_in) (All-nil HasNoLineFeed);
  rest = subst HasNoLineFeed (sym emptied) (All-nil (λ byte. byte ≢ line_feed));
  number_is = numbered;
  wanted_is = wanted;
  runs = runs;
}

-- From one place to another these bytes were read, and their answers were sent.
abbrev pub Went : {S : Type 0} → (S → List ℕ → S → Type 0) → (S → S → Type 0) → Place → List ℕ → Place → S → S → Type 0
Went takes flushes old bytes new before after = (text : List ℕ) × Goes old bytes text new × Sends takes flushes before text after

module _ {S : Type 0} {takes : S → List ℕ → S → Type 0} {flushes : S → S → Type 0} where
  pub went_nowhere : (a : Place) (s : S) → HasNoLineFeed a.part → Went takes flushes a [] a s s
  went_nowhere a s part_in = ([], Goes-none a part_in, sends_nothing takes flushes s)

  pub went_on : {a b c : Place} {xs ys : List ℕ} {s t u : S} → Went takes flushes a xs b s t → Went takes flushes b ys c t u
      → Went takes flushes a (xs ++ ys) c s u
  went_on (text, goes, sent) (more, on, passed) = (text ++ more, Goes-append goes on, sends_joined takes flushes _ _ _ _ _ sent passed)

  -- nothing more was sent
  pub sent_still : {s t u : S} {text : List ℕ} → Sends takes flushes s text t → Sends takes flushes t [] u → Sends takes flushes s text u
  sent_still {s} {u} {text} p q = subst (λ zs. Sends takes flushes s zs u) (append-nil text) (sends_joined takes flushes _ _ _ _ _ p q)

  -- the answers so far were flushed
  pub went_flushed : {a b : Place} {xs : List ℕ} {s t u : S} → Went takes flushes a xs b s t → flushes t u → Went takes flushes a xs b s u
  went_flushed (text, goes, sent) h = (text, goes, sent_still sent (sends_flush takes flushes _ _ h))

-- ---- faults

pub Begins-none : (a : Place) (bytes : List ℕ) → HasNoLineFeed a.part → Begins a bytes []
Begins-none a bytes part_in = record { read = []; unread = bytes; place = a; bytes_are = refl; goes = Goes-none a part_in }

-- all of some bytes are a beginning of them
abbrev pub Begins-all : {a b : Place} {bytes text : List ℕ} → Goes a bytes text b → Begins a bytes text
Begins-all {b} {bytes} goes = record { read = bytes; unread = []; place = b; bytes_are = sym (append-nil bytes); goes = goes }

abbrev pub Begins-later : {a b : Place} {read bytes text more : List ℕ} → Goes a read text b → Begins b bytes more → Begins a (read ++ bytes) (text ++ more)
Begins-later {read} goes s = record {
  read = read ++ s.read;
  unread = s.unread;
  place = s.place;
  bytes_are = ap (λ (zs : List ℕ). read ++ zs) s.bytes_are ∙ sym (append_assoc read s.read s.unread);
  goes = Goes-append goes s.goes;
}

-- a bad line behind a stretch
abbrev pub stops_later : {a b : Place} {read bytes text more : List ℕ} {report : Report} → Goes a read text b → StopsAtBad b bytes report more
    → StopsAtBad a (read ++ bytes) report (text ++ more)
stops_later {read} goes s = record {
  read = read ++ s.read;
  unread = s.unread;
  place = s.place;
  bytes_are = ap (λ (zs : List ℕ). read ++ zs) s.bytes_are ∙ sym (append_assoc read s.read (line_feed ∷ s.unread));
  goes = Goes-append goes s.goes;
  bad = s.bad;
  report_is = s.report_is;
}

module _ {S : Type 0} (takes fails : S → List ℕ → S → Type 0) (flushes flush_fails : S → S → Type 0) where
  -- what stands where a fault ended a stretch that a sink answers
  abbrev pub Halts : Place → List ℕ → S → S → Fault → Type 0
  Halts old bytes before after fault =
      Stops old bytes (λ text. Sends takes flushes before text after) (λ text. BrokeOn takes fails flushes flush_fails before text after) fault

  -- a fault behind a stretch is one of the whole
  pub Halts-later : {old now : Place} {read : List ℕ} {before mid : S} (bytes : List ℕ) (after : S) (fault : Fault)
      → Went takes flushes old read now before mid → Halts now bytes mid after fault → Halts old (read ++ bytes) before after fault
  Halts-later bytes after (BadLine report) (front, goes, passed) (text, s, sent) =
      (front ++ text, stops_later goes s, sends_joined takes flushes _ _ _ _ _ passed sent)
  Halts-later bytes after ReadFailed p stops = absurd stops
  Halts-later bytes after WriteFailed (front, goes, passed) (text, s, broke) = (front ++ text, Begins-later goes s, broke_on_later passed broke)
  Halts-later bytes after OutOfMemory (front, goes, passed) (text, s, sent) =
      (front ++ text, Begins-later goes s, sends_joined takes flushes _ _ _ _ _ passed sent)

  -- a fault at a line is one at the bytes that it begins
  pub Halts-line : (now : Place) (state : State) (line later : List ℕ) (mid after : S) (fault : Fault) → HasNoLineFeed now.part → HasNoLineFeed line
      → LineStops now.number now.state (without_return (now.part ++ line)) state (Sends takes flushes mid [] after)
      (λ text. BrokeOn takes fails flushes flush_fails mid text after) fault → Halts now (ended line ++ later) mid after fault
  Halts-line now state line later mid after (BadLine report) part_in line_in (is, bad, sent) = (
    [],
    record {
      read = line;
      unread = later;
      place = record now { part = now.part ++ line };
      bytes_are = append_assoc line (line_feed ∷ []) later;
      goes = Goes-part now line (now.part ++ line) part_in line_in refl;
      bad = bad;
      report_is = is;
    },
    sent,
  )
  Halts-line now state line later mid after ReadFailed part_in line_in stops = absurd stops
  Halts-line now state line later mid after WriteFailed part_in line_in (text, wanted, runs, broke) =
      let new : Place = record { number = now.number + 1; part = []; state = state; wanted = now.wanted || wanted } in
      let goes = Goes-line now new line text wanted part_in line_in runs refl refl refl in
      (text, record { read = ended line; unread = later; place = new; bytes_are = refl; goes = goes }, broke)
  Halts-line now state line later mid after OutOfMemory part_in line_in sent = ([], Begins-none now (ended line ++ later) part_in, sent)
