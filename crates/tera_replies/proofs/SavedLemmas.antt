-- The script of a state: its lines, what they say, and what a replay makes of it.
use Rattle.std.proofs.Common.{◌≡◌, ◌≢◌, ℕ, ◌+◌, ◌==◌, ◌≤◌, Bool, true, false, ◌||◌, List, [], ◌∷◌, ◌++◌, ◌↔◌, All, map, length, Option, Some, None, codes, cond}
use Rattle.std.proofs.Common.{refl, sym, ap, subst, ◌∙◌, inl, inr, arith, append-nil}
use Rattle.std.specs.Prelude.{Ok, not, ⊤}
use Rattle.std.proofs.lemmas.Bool.{and_parts}
use Rattle.std.proofs.lemmas.Bool.Decides.{nat_tests}
use Rattle.std.proofs.lemmas.List.{length-map}
use Rattle.std.proofs.lemmas.List.Elements.{All-cons, All-nil}
use Rattle.std.specs.FinMap.{empty, entries, get}
use Rattle.std.specs.List.{AllByRecursion, AllZip, flat_map, list_all}
use Rattle.std.specs.Option.{option_map}
use Rattle.tera_report.specs.Quoted.{is_control}
use Rattle.tera_meaning.specs.Alike.{LaidOutTheSame}
use Rattle.tera_meaning.specs.Answer.{done}
use Rattle.tera_meaning.specs.Form.{Form, MarkedText}
use Rattle.tera_meaning.specs.Integer.{Integer}
use Rattle.tera_meaning.specs.KeyMeaning.{KeyForm, truth_key, number_key, text_key, key_meaning, key_text}
use Rattle.tera_meaning.specs.Meaning.{layout}
use Rattle.tera_meaning.specs.Outcome.{Outcome}
use Rattle.tera_meaning.specs.Request.{Command}
use Rattle.tera_meaning.specs.Run.{AreFixed, IsAmpleRun, IsRun, NoneWantsMemory, state_after_all}
use Rattle.tera_meaning.specs.State.{State}
use Rattle.tera_meaning.specs.Tree.{Items, Members, undefined, none, truth, number, text, bytes, array, object, no_items, item, no_members, member}
use Rattle.tera_meaning.specs.Tree.{relabeled_items, relabeled_members}
use Rattle.tera_script.specs.Line.{IsSkipped, Says}
use Rattle.tera_script.specs.Saved.{commands_of, owned_state, script_of, set_line}
use Rattle.tera_script.specs.Written.{owned_form, owned_key}
use Rattle.tera_replies.specs.Replay.{lines_given, status_of, report, wants_memory, AllAnswered, IsAnswered, Replays}
use Rattle.tera_replies.specs.Reply.{AreReplies, IsReply}
use Rattle.tera_replies.specs.Saved.{made_again, oks}
use Rattle.tera_replies.specs.Script.{ended, line_feed, without_return, HasNoLineFeed, Script, Splits}
use Rattle.tera_replies.specs.Script.{BadLine as Bad}
use Rattle.tera_replies.specs.Streams.{Input, just_these, untold}
use Rattle.tera_replies.specs.Stretch.{start, Goes, Place, Runs}
use Rattle.tera_replies.proofs.StretchLemmas.{one_script, Splits-same}

abbrev Entries : Type 0
Entries = List (List ℕ × Form)

abbrev lines_of : Bool → Entries → List (List ℕ)
lines_of ascii es = map (set_line ascii) es

abbrev outcomes_of : Entries → List Outcome
outcomes_of es = map (λ entry. Ok done) es

-- ---- what prints is in no need of an end

abbrev Prints : List ℕ → Type 0
Prints line = list_all (λ byte. not (is_control byte)) line ≡ true

no_feed : (b : ℕ) → not (is_control b) ≡ true → b ≢ line_feed
no_feed b h is = grind (arith, nat_tests)

no_return : (b : ℕ) → not (is_control b) ≡ true → (b == 13) ≡ false
no_return b h = grind (arith, nat_tests)

one_line : (line : List ℕ) → Prints line → HasNoLineFeed line
one_line [] h = All-nil (λ byte. byte ≢ line_feed)
one_line (b ∷ line) h =
    let (first, rest) = and_parts (not (is_control b)) _ h in
    All-cons (λ byte. byte ≢ line_feed) b line (no_feed b first) (one_line line rest)

nothing_dropped : (line : List ℕ) → Prints line → without_return line ≡ line
nothing_dropped [] h = refl
nothing_dropped (b ∷ []) h = rw (no_return b (and_parts (not (is_control b)) _ h).0) refl
nothing_dropped (b ∷ next ∷ line) h = ap (λ l. b ∷ l) (nothing_dropped (next ∷ line) (and_parts (not (is_control b)) _ h).1)

each_one_line : (lines : List (List ℕ)) → AllByRecursion Prints lines → All HasNoLineFeed lines
each_one_line [] h = All-nil HasNoLineFeed
each_one_line (line ∷ lines) h = All-cons HasNoLineFeed line lines (one_line line h.0) (each_one_line lines h.1)

none_dropped : (lines : List (List ℕ)) → AllByRecursion Prints lines → map without_return lines ≡ lines
none_dropped [] h = refl
none_dropped (line ∷ lines) h = λ i. nothing_dropped line h.0 i ∷ none_dropped lines h.1 i

-- ---- lines

by_lines : (ascii : Bool) (es : Entries) → script_of ascii es ≡ flat_map ended (lines_of ascii es)
by_lines ascii [] = refl
by_lines ascii (e ∷ es) = ap (λ l. ended (set_line ascii e) ++ l) (by_lines ascii es)

split_of : (ascii : Bool) (es : Entries) → AllByRecursion Prints (lines_of ascii es) → Splits (script_of ascii es) (lines_of ascii es) []
split_of ascii es prints = record {
  whole = by_lines ascii es ∙ sym (append-nil (flat_map ended (lines_of ascii es)));
  each = each_one_line (lines_of ascii es) prints;
  rest = All-nil (λ byte. byte ≢ line_feed);
}

say : (n : ℕ) (lines : List (List ℕ)) (commands : List Command) → AllZip Says lines commands → Script n lines commands None
say n [] [] h = (refl, refl)
say n (line ∷ lines) (command ∷ commands) h = inr (inl (command, commands, h.0, refl, say (n + 1) lines commands h.1))
say n [] (command ∷ commands) h = absurd h
say n (line ∷ lines) [] h = absurd h

-- ---- answers

ok_each : (es : Entries) → AllZip IsReply (outcomes_of es) (map (λ entry. codes "ok") es)
ok_each [] = tt
ok_each (e ∷ es) = (refl, ok_each es)

ok_lines : (es : Entries) → oks es ≡ flat_map ended (map (λ entry. codes "ok") es)
ok_lines [] = refl
ok_lines (e ∷ es) = ap (λ l. codes "ok\n" ++ l) (ok_lines es)

only_ok : (es : Entries) (lines : List (List ℕ)) → AllZip IsReply (outcomes_of es) lines → flat_map ended lines ≡ oks es
only_ok [] [] h = refl
only_ok (e ∷ es) (line ∷ lines) h = λ i. ended (h.0 i) ++ only_ok es lines h.1 i
only_ok [] (line ∷ lines) h = absurd h
only_ok (e ∷ es) [] h = absurd h

ok_alone : (es : Entries) (out : List ℕ) → AreReplies (outcomes_of es) out → out ≡ oks es
ok_alone es out (lines, replied, is) = is ∙ only_ok es lines replied

no_want : (es : Entries) → wants_memory (outcomes_of es) ≡ false
no_want [] = refl
no_want (e ∷ es) = no_want es

fixed : (es : Entries) (state : State) → AreFixed state (commands_of es)
fixed [] state = tt
fixed (e ∷ es) state = (tt, fixed es _)

or_none : (a b : Bool) → a ≡ (false || b) → a ≡ false → b ≡ false
or_none a b is free = sym is ∙ free

zero_where : (outcomes : List Outcome) → wants_memory outcomes ≡ false → status_of None outcomes ≡ 0
zero_where outcomes free = ap (λ (w : Bool). let status : ℕ = cond w 1 0 in status) free

at_most_one : (outcomes : List Outcome) → status_of None outcomes ≤ 1
at_most_one outcomes = elim (wants_memory outcomes) as (λ w. (let status : ℕ = cond w 1 0 in status) ≤ 1) [ true ↦ omega arith | false ↦ omega arith ]

given_all : (fails : Option Bool) (lines : List (List ℕ)) → lines_given fails lines [] ≡ map without_return lines
given_all (Some true) lines = refl
given_all (Some false) lines = append-nil (map without_return lines)
given_all None lines = append-nil (map without_return lines)

-- ---- forms whose keys own their texts

mutual
  same_layout : (x : Form) → layout (owned_form x) ≡ layout x
  same_layout undefined = refl
  same_layout none = refl
  same_layout (truth b) = refl
  same_layout (number n) = refl
  same_layout (text t) = refl
  same_layout (bytes bs) = refl
  same_layout (array xs) = ap array (same_items xs)
  same_layout (object ps) = ap object (same_members ps)

  same_items : (xs : Items Integer MarkedText KeyForm)
      → relabeled_items (λ n. n.value) (λ t. t.spelled) key_meaning (relabeled_items (λ n. n) (λ t. t) owned_key xs)
      ≡ relabeled_items (λ n. n.value) (λ t. t.spelled) key_meaning xs
  same_items no_items = refl
  same_items (item x xs) = λ i. item (same_layout x i) (same_items xs i)

  same_members : (ps : Members Integer MarkedText KeyForm)
      → relabeled_members (λ n. n.value) (λ t. t.spelled) key_meaning (relabeled_members (λ n. n) (λ t. t) owned_key ps)
      ≡ relabeled_members (λ n. n.value) (λ t. t.spelled) key_meaning ps
  same_members no_members = refl
  same_members (member (truth_key b) x ps) = λ i. member (truth_key b) (same_layout x i) (same_members ps i)
  same_members (member (number_key n) x ps) = λ i. member (number_key n.value) (same_layout x i) (same_members ps i)
  same_members (member (text_key t) x ps) = λ i. member (text_key (key_text t)) (same_layout x i) (same_members ps i)

laid_out : (o : Option Form) → option_map layout (option_map owned_form o) ≡ option_map layout o
laid_out None = refl
laid_out (Some form) = ap Some (same_layout form)

-- each name is laid out as it was
pub same_state : (f g : State) → ((name : List ℕ) → get f name ≡ option_map owned_form (get g name)) → LaidOutTheSame f g
same_state f g forms name = ap (option_map layout) (forms name) ∙ laid_out (get g name)

-- ---- replays

module _ (one : (line : List ℕ) (first second : Command) → Says line first → Says line second → first ≡ second)
    (silent : (line : List ℕ) (command : Command) → IsSkipped line → ¬ Says line command)
    (leaves : (old : State) (commands : List Command) (outcomes : List Outcome) (new : State) → IsAmpleRun old commands outcomes new
    → new ≡ state_after_all old commands)
    (same_outcomes : (old : State) (commands : List Command) (outcomes others : List Outcome) (new also : State) → AreFixed old commands
    → IsAmpleRun old commands outcomes new → IsAmpleRun old commands others also → outcomes ≡ others)
    (zero_is : (outcomes : List Outcome) → (status_of None outcomes ≡ 0) ↔ NoneWantsMemory outcomes)
    (ascii : Bool) (state : State) (prints : AllByRecursion Prints (lines_of ascii (entries state)))
    (said : AllZip Says (lines_of ascii (entries state)) (commands_of (entries state)))
    (run : IsAmpleRun empty (commands_of (entries state)) (outcomes_of (entries state)) (owned_state state)) where
  abbrev es : Entries
  es = entries state

  abbrev lines : List (List ℕ)
  lines = lines_of ascii es

  script : (n : ℕ) → Script n (map without_return lines) (commands_of es) None
  script n = subst (λ ls. Script n ls (commands_of es) None) (sym (none_dropped lines prints)) (say n lines (commands_of es) said)

  replied : AreReplies (outcomes_of es) (oks es)
  replied = (map (λ entry. codes "ok") es, ok_each es, ok_lines es)

  runs : Runs 1 empty (map without_return lines) (oks es) false (owned_state state)
  runs = record {
    commands = commands_of es;
    outcomes = outcomes_of es;
    script = script 1;
    run = run.0;
    replied = replied;
    wanted_is = sym (no_want es);
  }

  pub script_taken : Goes start (script_of ascii es) (oks es) (made_again state)
  script_taken =
      let split = split_of ascii es prints in
      record {
        lines = lines;
        wanted = false;
        split = split.whole;
        each = split.each;
        rest = split.rest;
        number_is = ap (λ (n : ℕ). 1 + n) (sym (length-map es (set_line ascii)));
        wanted_is = refl;
        runs = runs;
      }

  -- what the lines say comes to these outcomes alone, where none wants memory
  outcomes_alone : (commands : List Command) (bad : Option Bad) (outcomes : List Outcome) (new : State)
      → Script 1 (map without_return lines) commands bad → IsRun empty commands outcomes new → NoneWantsMemory outcomes
      → (outcomes ≡ outcomes_of es) × (new ≡ owned_state state)
  outcomes_alone commands bad outcomes new says ran ample_so =
      let same = one_script one silent 1 (map without_return lines) commands (commands_of es) bad None says (script 1) in
      let ample : IsAmpleRun empty (commands_of es) outcomes new = (subst (λ cs. IsRun empty cs outcomes new) same.0 ran, ample_so) in (
        same_outcomes empty (commands_of es) outcomes (outcomes_of es) new (owned_state state) (fixed es empty) ample run,
        leaves empty (commands_of es) outcomes new ample ∙ sym (leaves empty (commands_of es) (outcomes_of es) (owned_state state) run),
      )

  pub taken_alone : (out : List ℕ) (place : Place) → Goes start (script_of ascii es) out place → place.wanted ≡ false
      → (out ≡ oks es) × (place ≡ made_again state)
  taken_alone out place goes free =
      let split : Splits (script_of ascii es) goes.lines place.part = record { whole = goes.split; each = goes.each; rest = goes.rest } in
      let same = Splits-same (script_of ascii es) place.part [] goes.lines lines split (split_of ascii es prints) in
      let ran = goes.runs in
      let ample = (zero_is ran.outcomes).0 (zero_where ran.outcomes (sym ran.wanted_is ∙ or_none place.wanted goes.wanted goes.wanted_is free)) in
      let says = subst (λ ls. Script 1 (map without_return ls) ran.commands None) same.0 ran.script in
      let alone = outcomes_alone ran.commands None ran.outcomes place.state says ran.run ample in
      let number : place.number ≡ 1 + length es =
      goes.number_is ∙ ap (λ (ls : List (List ℕ)). 1 + length ls) same.0 ∙ ap (λ (n : ℕ). 1 + n) (length-map es (set_line ascii)) in (
        ok_alone es out (subst (λ os. AreReplies os out) alone.0 ran.replied),
        (λ i. record { number = number i; part = same.1 i; state = alone.1 i; wanted = free i }),
      )

  pub script_answered : IsAnswered (script_of ascii es) (oks es) [] 0
  script_answered = record {
    lines = lines;
    part = [];
    bad = None;
    outcomes = outcomes_of es;
    split = split_of ascii es prints;
    answers = record {
      commands = commands_of es;
      state = owned_state state;
      script = subst (λ ls. Script 1 ls (commands_of es) None) (sym (given_all None lines)) (script 1);
      run = run.0;
    };
    ended = λ is. absurd (cc is);
    read = inl (tt, tt);
    replied = replied;
    err_is = refl;
    status_is = sym (zero_where (outcomes_of es) (no_want es));
  }

  -- where all of the script was answered
  all_alone : {fails : Option Bool} {input : Input} {out err : List ℕ} {status : ℕ}
      → AllAnswered (script_of ascii es) fails input out err status
      → (status ≤ 1) × (status ≡ 0 → (out ≡ oks es) × (err ≡ []))
  all_alone {fails} {out = out} {status = status} h =
      let same = Splits-same (script_of ascii es) h.part [] h.lines lines h.split (split_of ascii es prints) in
      let given : lines_given fails h.lines h.part ≡ map without_return lines =
      (λ i. lines_given fails (same.0 i) (same.1 i)) ∙ given_all fails lines in
      let says = subst (λ ls. Script 1 ls h.answers.commands h.bad) given h.answers.script in
      let fine : h.bad ≡ None = (one_script one silent 1 (map without_return lines) h.answers.commands (commands_of es) h.bad None says (script 1)).1 in
      let status_is : status ≡ status_of None h.outcomes = h.status_is ∙ ap (λ bad. status_of bad h.outcomes) fine in (
        subst (λ (n : ℕ). n ≤ 1) (sym status_is) (at_most_one h.outcomes),
        (λ zero.
            let ample = (zero_is h.outcomes).0 (sym status_is ∙ zero) in
            let alone = outcomes_alone h.answers.commands h.bad h.outcomes h.answers.state says h.answers.run ample in
            (ok_alone es out (subst (λ os. AreReplies os out) alone.0 h.replied), h.err_is ∙ ap report fine)),
      )

  pub replayed_alone : (fails : Option Bool) (out err : List ℕ) (status : ℕ)
      → Replays (script_of ascii es) fails untold (just_these out out err) status
      → (status ≤ 1) × (status ≡ 0 → (out ≡ oks es) × (err ≡ []))
  replayed_alone fails out err status (inl (put, told, inl h, gets, tells)) =
      let all = all_alone h in
      (all.0, (λ zero. let is = all.1 zero in (sym gets ∙ is.0, sym tells ∙ is.1)))
  replayed_alone fails out err status (inl (put, told, inr (inl h), gets, tells)) =
      (omega (arith, h.status_is), (λ zero. absurd (omega (arith, h.status_is, zero))))
  replayed_alone fails out err status (inl (put, told, inr (inr h), gets, tells)) =
      (omega (arith, h.status_is), (λ zero. absurd (omega (arith, h.status_is, zero))))
  replayed_alone fails out err status (inr (put, failed, broke, is, tells)) =
      (omega (arith, is), (λ zero. absurd (omega (arith, is, zero))))
