-- What answers short scripts.
use Rattle.std.proofs.Common.{◌≡◌, ℕ, ◌≤◌, ◌⊎◌, ◌↔◌, IsTrue, rules, inl, inr, Bool, true, false, List, [], ◌∷◌, ◌++◌, length, map}
use Rattle.std.proofs.Common.{codes, Option, None, Some, Ok, sym, ◌∙◌, ap, subst, refl, arith}
use Rattle.std.specs.FinMap.{empty, get-empty}
use Rattle.std.specs.Fmt.{digits}
use Rattle.std.specs.List.{flat_map}
use Rattle.std.specs.Str.{chars, is_utf8}
use Rattle.std.specs.declared.cmp.Ordering.{Ordering}
use Rattle.std.specs.declared.cmp.Ordering.TheVariants.{Less, Equal, Greater}
use Rattle.tera.specs.Answer
use Rattle.tera.specs.Meaning.{Meaning, meaning}
use Rattle.tera.specs.Order
use Rattle.tera.specs.Outcome.{Outcome}
use Rattle.tera.specs.Request.{Command, weigh, asking}
use Rattle.tera.specs.Run.{IsRun}
use Rattle.tera.specs.State.{State, form_at, read}
use Rattle.tera.specs.Step.{IsStep}
use Rattle.tera.specs.Weighing
use Rattle.tera_replies.specs.Replay.{AllAnswered, Replays, report, status_of}
use Rattle.tera_replies.specs.Reply.{IsReply, AreReplies, order_name}
use Rattle.tera_replies.specs.Streams.{Input}
use Rattle.tera_replies.specs.Script.{BadLine, Script, Splits, ended, last_line, without_return}
use Rattle.tera_script.specs.Line.{Says, IsBad}
use Rattle.uses.proofs.Ample.{OneSplit, HasShortReply, ample, due_is_short, these}

abbrev pub compared : Command
compared = asking (weigh Weighing.compare (codes "a") (codes "b"))

abbrev pub equated : Command
equated = asking (weigh Weighing.equal (codes "a") (codes "b"))

abbrev OneScript : Type 0
OneScript = (n : ℕ) (lines : List (List ℕ)) (commands others : List Command) (bad other : Option BadLine) → Script n lines commands bad
    → Script n lines others other → (commands ≡ others) × (bad ≡ other)

abbrev Ties : Type 0
Ties = (x y : Meaning) → (Order.compare x y ≡ Equal) ↔ (x ≡ y)

abbrev Alike : Type 0
Alike = (x y : Meaning) → IsTrue (Order.same x y) ↔ (x ≡ y)

-- two absent names mean the same
absent : (name other : List ℕ) → meaning (form_at empty name) ≡ meaning (form_at empty other)
absent name other = ap (λ held. meaning (read held)) (get-empty _ name ∙ sym (get-empty _ other))

compare_step : Ties → (new : State) (outcome : Outcome) → IsStep empty compared outcome new → (outcome ≡ Ok (Answer.order (Some Equal))) × (new ≡ empty)
compare_step ties new outcome (inl (is, after)) = (is ∙ ap (λ order. Ok (Answer.order (Some order))) ((ties _ _).1 (absent (codes "a") (codes "b"))), after)
compare_step ties new outcome (inr (wants, is, after)) = absurd (let no : false ≡ true = wants in cc)

equal_step : Alike → (new : State) (outcome : Outcome) → IsStep empty equated outcome new → (outcome ≡ Ok (Answer.truth true)) × (new ≡ empty)
equal_step alike new outcome (inl (is, after)) = (is ∙ ap (λ b. Ok (Answer.truth b)) ((alike _ _).1 (absent (codes "a") (codes "b"))), after)
equal_step alike new outcome (inr (wants, is, after)) = absurd (let no : false ≡ true = wants in cc)

pub both_run : Ties → Alike → (outcomes : List Outcome) (new : State) → IsRun empty (compared ∷ equated ∷ []) outcomes new
    → outcomes ≡ Ok (Answer.order (Some Equal)) ∷ Ok (Answer.truth true) ∷ []
both_run ties alike [] new h = absurd h
both_run ties alike (a ∷ []) new h = absurd h.2
both_run ties alike (a ∷ b ∷ []) new h =
    let first = compare_step ties h.0 a h.1 in
    let second = equal_step alike h.2.0 b (subst (λ s. IsStep s equated b h.2.0) first.1 h.2.1) in
    (λ i. first.0 i ∷ second.0 i ∷ [])
both_run ties alike (a ∷ b ∷ c ∷ more) new h = absurd h.2.2

pub both_replied : (out : List ℕ) → AreReplies (Ok (Answer.order (Some Equal)) ∷ Ok (Answer.truth true) ∷ []) out → out ≡ codes "equal\ntrue\n"
both_replied out ([], zip, is) = absurd zip
both_replied out (a ∷ [], zip, is) = absurd zip.1
both_replied out (a ∷ b ∷ [], zip, is) = is ∙ (λ i. flat_map ended (zip.0 i ∷ zip.1.0 i ∷ []))
both_replied out (a ∷ b ∷ c ∷ more, zip, is) = absurd zip.1.1

abbrev pub two_lines : List (List ℕ)
two_lines = codes "cmp a b" ∷ codes "eq a b" ∷ []

two_split : Splits (codes "cmp a b\neq a b\n") two_lines []
two_split = record { whole = refl; each = search rules; rest = search rules }

-- of two calls that are all answered these are the answers
pub both_answered : {input : Input} → Ties → Alike → OneSplit → OneScript → Says (codes "cmp a b") compared
    → Says (codes "eq a b") equated → (out err : List ℕ) (status : ℕ)
    → AllAnswered (codes "cmp a b\neq a b\n") (Some false) input out err status → (out ≡ codes "equal\ntrue\n") × (status ≡ 0)
both_answered ties alike split script first second out err status h =
    let lines = split _ h.part [] h.lines two_lines h.split two_split in
    let said : Script 1 two_lines (compared ∷ equated ∷ []) None =
    inr (inl (compared, equated ∷ [], first, refl, inr (inl (equated, [], second, refl, (refl, refl))))) in
    let given : map without_return h.lines ++ last_line h.part ≡ two_lines = (λ i. map without_return (lines.0 i) ++ last_line (lines.1 i)) in
    let same = script 1 two_lines h.answers.commands (compared ∷ equated ∷ []) h.bad None
    (subst (λ ls. Script 1 ls h.answers.commands h.bad) given h.answers.script) said in
    let ran = both_run ties alike h.outcomes h.answers.state (subst (λ cs. IsRun empty cs h.outcomes h.answers.state) same.0 h.answers.run) in
    (both_replied out (subst (λ os. AreReplies os out) ran h.replied), h.status_is ∙ (λ i. status_of (same.1 i) (ran i)))

abbrev OneCommand : Type 0
OneCommand = (line : List ℕ) (first second : Command) → Says line first → Says line second → first ≡ second

-- the replies to comparisons are short
order_is_short : (order : Option Ordering) → length (order_name order) ≤ 20
order_is_short None = omega arith
order_is_short (Some Less) = omega arith
order_is_short (Some Equal) = omega arith
order_is_short (Some Greater) = omega arith

truth_is_short : (b : Bool) (reply : List ℕ) → IsReply (Ok (Answer.truth b)) reply → length reply ≤ 20
truth_is_short true reply is = omega (arith, ap length is)
truth_is_short false reply is = omega (arith, ap length is)

compared_is_short : OneCommand → Says (codes "cmp a b") compared → HasShortReply (codes "cmp a b")
compared_is_short one says command said old new outcome step reply is =
    by (subst (λ c. IsStep old c outcome new) (one _ _ _ said says) step)
  where
    by : IsStep old compared outcome new → length reply ≤ 20
    by (inl (comes, after)) = omega (
      arith,
      ap length (subst (λ o. IsReply o reply) comes is),
      order_is_short (Some (Order.compare (meaning (form_at old (codes "a"))) (meaning (form_at old (codes "b"))))),
    )
    by (inr (wants, comes, after)) = absurd (let no : false ≡ true = wants in cc)

equated_is_short : OneCommand → Says (codes "eq a b") equated → HasShortReply (codes "eq a b")
equated_is_short one says command said old new outcome step reply is =
    by (subst (λ c. IsStep old c outcome new) (one _ _ _ said says) step)
  where
    by : IsStep old equated outcome new → length reply ≤ 20
    by (inl (comes, after)) = truth_is_short _ reply (subst (λ o. IsReply o reply) comes is)
    by (inr (wants, comes, after)) = absurd (let no : false ≡ true = wants in cc)

bad_is_short : (line : List ℕ) → IsBad line → HasShortReply line
bad_is_short line bad command said old new outcome step reply is = absurd (bad.1 command said)

module _ (input : Input) (OutGets OutBroke ErrGets : List ℕ → Type 0) where
  -- of two calls: the status is 0 or 1, at 0 the output got their answers; and where the output does not break on so few bytes, it is 0 or no memory was found
  pub both_status : Ties → Alike → OneSplit → OneScript → OneCommand → Says (codes "cmp a b") compared → Says (codes "eq a b") equated
      → (bytes : List ℕ) (fails : Option Bool) (status : ℕ) → bytes ≡ codes "cmp a b\neq a b\n" → fails ≡ Some false
      → Replays bytes fails input (these OutGets OutBroke ErrGets) status → (status ≤ 1) × (status ≡ 0 → OutGets (codes "equal\ntrue\n"))
      × (((out : List ℕ) → length out ≤ 42 → OutBroke out → ⊥) → (status ≡ 0) ⊎ ((status ≡ 1) × ErrGets (codes "error: Out of memory\n")))
  both_status ties alike split script one first second bytes fails status is ends h =
      let known = subst (λ f. Replays (codes "cmp a b\neq a b\n") f input (these OutGets OutBroke ErrGets) status) ends
      (subst (λ bs. Replays bs fails input (these OutGets OutBroke ErrGets) status) is h) in (
        fst_of known,
        snd_of known,
        λ whole. elim (ample _ input OutGets OutBroke ErrGets status (omega arith)
            (λ out failed broke. whole out (due_is_short split _ two_lines two_split refl
            (compared_is_short one first, (equated_is_short one second, tt)) out failed) broke) known) [
              | inl (out, err, all, gets, told) ↦ inl (both_answered ties alike split script first second out err status all).1
              | inr none ↦ inr none
            ],
      )
    where
      fst_of : Replays (codes "cmp a b\neq a b\n") (Some false) input (these OutGets OutBroke ErrGets) status → status ≤ 1
      fst_of (inl (out, err, inl all, gets, told)) = omega (arith, (both_answered ties alike split script first second out err status all).1)
      fst_of (inl (out, err, inr (inl failed), gets, told)) = omega (arith, failed.status_is)
      fst_of (inl (out, err, inr (inr failed), gets, told)) = omega (arith, failed.status_is)
      fst_of (inr (out, failed, broke, is_one, told)) = omega (arith, is_one)

      snd_of : Replays (codes "cmp a b\neq a b\n") (Some false) input (these OutGets OutBroke ErrGets) status → status ≡ 0
          → OutGets (codes "equal\ntrue\n")
      snd_of (inl (out, err, inl all, gets, told)) zero = subst OutGets (both_answered ties alike split script first second out err status all).0 gets
      snd_of (inl (out, err, inr (inl failed), gets, told)) zero = absurd (omega (arith, zero, failed.status_is))
      snd_of (inl (out, err, inr (inr failed), gets, told)) zero = absurd (omega (arith, zero, failed.status_is))
      snd_of (inr (out, failed, broke, is_one, told)) zero = absurd (omega (arith, zero, is_one))

abbrev pub bad_lines : List (List ℕ)
bad_lines = codes "eq a b" ∷ codes "frob" ∷ codes "eq a b" ∷ []

bad_split : Splits (codes "eq a b\nfrob\neq a b\n") bad_lines []
bad_split = record { whole = refl; each = search rules; rest = search rules }

one_run : Alike → (outcomes : List Outcome) (new : State) → IsRun empty (equated ∷ []) outcomes new → outcomes ≡ Ok (Answer.truth true) ∷ []
one_run alike [] new h = absurd h
one_run alike (a ∷ []) new h = let first = equal_step alike h.0 a h.1 in (λ i. first.0 i ∷ [])
one_run alike (a ∷ b ∷ more) new h = absurd h.2

one_replied : (out : List ℕ) → AreReplies (Ok (Answer.truth true) ∷ []) out → out ≡ codes "true\n"
one_replied out ([], zip, is) = absurd zip
one_replied out (a ∷ [], zip, is) = is ∙ (λ i. flat_map ended (zip.0 i ∷ []))
one_replied out (a ∷ b ∷ more, zip, is) = absurd zip.1

-- the report of the second line
reported : report (Some (record { number = 2; line = codes "frob" })) ≡ codes "error: bad line\n --> line 2:1:1\n  |\n1 | frob\n  | ^^^^\n"
unfolding digits chars is_utf8 lib.Utf8.encode
reported = refl

-- of a script with a bad line this is what is written
bad_answered : {input : Input} → Alike → OneSplit → OneScript → Says (codes "eq a b") equated
    → IsBad (codes "frob") → (out err : List ℕ) (status : ℕ)
    → AllAnswered (codes "eq a b\nfrob\neq a b\n") (Some false) input out err status
    → (out ≡ codes "true\n") × (err ≡ codes "error: bad line\n --> line 2:1:1\n  |\n1 | frob\n  | ^^^^\n") × (status ≡ 2)
bad_answered alike split script says bad out err status h =
    let lines = split _ h.part [] h.lines bad_lines h.split bad_split in
    let second : BadLine = record { number = 2; line = codes "frob" } in
    let said : Script 1 bad_lines (equated ∷ []) (Some second) = inr (inl (equated, [], says, refl, inr (inr (bad, refl, refl)))) in
    let given : map without_return h.lines ++ last_line h.part ≡ bad_lines = (λ i. map without_return (lines.0 i) ++ last_line (lines.1 i)) in
    let same = script 1 bad_lines h.answers.commands (equated ∷ []) h.bad (Some second)
    (subst (λ ls. Script 1 ls h.answers.commands h.bad) given h.answers.script) said in
    let ran = one_run alike h.outcomes h.answers.state (subst (λ cs. IsRun empty cs h.outcomes h.answers.state) same.0 h.answers.run) in (
      one_replied out (subst (λ os. AreReplies os out) ran h.replied),
      h.err_is ∙ ap report same.1 ∙ reported,
      h.status_is ∙ (λ i. status_of (same.1 i) (ran i)),
    )

module _ (input : Input) (OutGets OutBroke ErrGets : List ℕ → Type 0) where
  -- of a script with a bad line: it is reported, or no memory was found, where the output does not break on so few bytes
  pub bad_status : Alike → OneSplit → OneScript → OneCommand → Says (codes "eq a b") equated → IsBad (codes "frob")
      → (bytes : List ℕ) (fails : Option Bool) (status : ℕ) → bytes ≡ codes "eq a b\nfrob\neq a b\n" → fails ≡ Some false
      → Replays bytes fails input (these OutGets OutBroke ErrGets) status → ((out : List ℕ) → length out ≤ 63 → OutBroke out → ⊥)
      → ((status ≡ 2) × OutGets (codes "true\n") × ErrGets (codes "error: bad line\n --> line 2:1:1\n  |\n1 | frob\n  | ^^^^\n"))
      ⊎ ((status ≡ 1) × ErrGets (codes "error: Out of memory\n"))
  bad_status alike split script one says bad bytes fails status is ends h whole =
      let known = subst (λ f. Replays (codes "eq a b\nfrob\neq a b\n") f input (these OutGets OutBroke ErrGets) status) ends
      (subst (λ bs. Replays bs fails input (these OutGets OutBroke ErrGets) status) is h) in
      elim (ample _ input OutGets OutBroke ErrGets status (omega arith)
      (λ out failed broke. whole out (due_is_short split _ bad_lines bad_split refl
      (equated_is_short one says, (bad_is_short _ bad, (equated_is_short one says, tt))) out failed) broke) known) [
        | inl (out, err, all, gets, told) ↦
            let written = bad_answered alike split script says bad out err status all in
            inl (written.2, subst OutGets written.0 gets, subst ErrGets written.1 told)
        | inr none ↦ inr none
      ]
