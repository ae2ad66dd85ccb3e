-- The outcomes of runs, in which some steps may want memory.
use Rattle.std.specs.Prelude.{◌≡◌, ◌≢◌, ℕ, Bool, true, false, List, [], ◌∷◌, ◌++◌, length, Option, Ok, refl}
use Rattle.std.proofs.Common.{sym, ◌∙◌, ap, subst, inl, inr, arith, rules}
use Rattle.tera_report.specs.Escaping.{escaped}
use Rattle.tera_report.proofs.EscapeLaws.{Spells-escaped}
use Rattle.tera_meaning.specs.Answer
use Rattle.tera_meaning.specs.Form.{Form}
use Rattle.tera_meaning.specs.Meaning.{layout}
use Rattle.tera_meaning.specs.Outcome.{Outcome, out_of_memory, is_want}
use Rattle.tera_meaning.specs.Printed.{printed}
use Rattle.tera_meaning.specs.Question.{Question, IsAnswered, IsFixedAnswer}
use Rattle.tera_meaning.specs.Request.{Request, extend, ask, Command, asking}
use Rattle.tera_meaning.specs.State.{State, read}
use Rattle.tera_meaning.specs.Step.{ComesTo, IsOutcome, IsFixed, LeavesInWant, IsStep, state_after}
use Rattle.tera_meaning.specs.Run.{IsRun, AreOutcomes, AreFixed, state_after_all, WasDone, WasDoneInWant, IsDoneOf, NoneWantsMemory, IsAmpleRun}
use Rattle.tera_meaning.specs.Alike.{MeanTheSame, AllAskTheSame, AreAlike}
use Rattle.tera_meaning.proofs.AlikeLemmas.{word_alike, all_outcomes_alike, states_alike}
use Rattle.tera_meaning.proofs.QuotedLaws.{alone_alike, alone_prints}

pub never_wanted : (state : State) (request : Request) (into : Option (List ℕ))
    → ComesTo state request into out_of_memory → ⊥
never_wanted state v into e = search rules

-- each request comes to some outcome
some_answer : (question : Question) (held : Option Form) → (outcome : Outcome) × IsAnswered question held outcome
some_answer Question.print held =
    let t : List ℕ = printed (layout (read held)) in (Ok (Answer.text t), (t, alone_prints (layout (read held)), refl))
some_answer Question.escape held =
    let t : List ℕ = printed (layout (read held)) in
    (Ok (Answer.text (escaped t)), (t, escaped t, alone_prints (layout (read held)), Spells-escaped t, refl))
some_answer question held = (_, refl)

pub some_outcome : (state : State) (request : Request) (into : Option (List ℕ))
    → (outcome : Outcome) × ComesTo state request into outcome
some_outcome state (ask question name) into = some_answer question _
some_outcome state v into = (_, refl)

-- and to one alone, where what is printed is exact
one_answer : (question : Question) (held : Option Form) (o p : Outcome) → IsFixedAnswer question (layout (read held))
    → IsAnswered question held o → IsAnswered question held p → o ≡ p
one_answer Question.print held o p f (t, prints, e) (u, also, d) =
    e ∙ ap (λ s. Ok (Answer.text s)) (alone_alike _ _ t u refl f prints also) ∙ sym d
one_answer Question.escape held o p f (t, v, prints, spells, e) (u, w, also, spelled, d) =
    e ∙ ap (λ s. Ok (Answer.text s)) (word_alike v w t u (alone_alike _ _ t u refl f prints also) spells spelled) ∙ sym d
one_answer question held o p f e d = e ∙ sym d

pub one_outcome : (state : State) (request : Request) (into : Option (List ℕ)) (o p : Outcome) → IsFixed state request
    → ComesTo state request into o → ComesTo state request into p → o ≡ p
one_outcome state (ask question name) into o p f e d = one_answer question _ o p f e d
one_outcome state v into o p f e d = e ∙ sym d

pub some_outcomes : (state : State) (commands : List Command)
    → (outcomes : List Outcome) × AreOutcomes state commands outcomes
some_outcomes state [] = ([], tt)
some_outcomes state (command ∷ commands) =
    let first : (outcome : Outcome) × IsOutcome state command outcome = some_outcome state command.request command.into in
    let rest : (outcomes : List Outcome) × AreOutcomes (state_after state command) commands outcomes = some_outcomes (state_after state command) commands in
    (first.0 ∷ rest.0, (first.1, rest.1))

pub one_outcomes : (state : State) (commands : List Command) (os ps : List Outcome) → AreFixed state commands
    → AreOutcomes state commands os → AreOutcomes state commands ps → os ≡ ps
one_outcomes state (command ∷ commands) (o ∷ os) (p ∷ ps) f e d =
    search (rules, one_outcome, (one_outcomes (state_after state command) commands os ps f.1 e.1 d.1))
one_outcomes state x1 x2 ps f e d = search rules

-- what a step that wants memory leaves, and any other is the command's outcome
pub left_in_want : (old : State) (command : Command) (new : State) → IsStep old command out_of_memory new
    → LeavesInWant old command.request new
left_in_want old command new x3 = search rules

pub given_step : (old : State) (command : Command) (outcome : Outcome) (new : State) → IsStep old command outcome new
    → outcome ≢ out_of_memory → IsOutcome old command outcome × (new ≡ state_after old command)
given_step old command outcome new x4 n = search rules

-- an outcome is want of memory or not
is_out_of_memory : (outcome : Outcome) → is_want outcome ≡ true → outcome ≡ out_of_memory
is_out_of_memory x0 h = search rules

no_want : (outcome : Outcome) → is_want outcome ≡ false → outcome ≢ out_of_memory
no_want outcome h e = let yes : is_want outcome ≡ true = ap is_want e in cc

-- what was done of a run in which steps may want memory, and the run of that alone
abbrev DoneRun : State → List Command → List Outcome → State → Type 0
DoneRun old commands outcomes new =
    (done : List Command) × (answers : List Outcome) × IsDoneOf commands outcomes done answers
    × IsAmpleRun old done answers new

-- a step that wants memory, before what was done next
abbrev DoneFirst : State → Request → List Command → List Outcome → State → Type 0
DoneFirst old request next others new =
    (done : List Command) × (answers : List Outcome) × WasDoneInWant request done answers next others
    × IsAmpleRun old done answers new

done_in_want : (old mid : State) (request : Request) (next : List Command) (others : List Outcome) (new : State)
    → LeavesInWant old request mid → IsAmpleRun mid next others new → DoneFirst old request next others new
done_in_want old mid (extend source) next others new (part, is, left) run = (
  asking (extend part) ∷ next,
  Ok Answer.done ∷ others,
  (part, is, refl, refl),
  ((mid, inl (refl, left), run.0), ((λ e. cc), run.1)),
)
done_in_want old mid v next others new left run = (next, others, (refl, refl), subst (λ state. IsAmpleRun state next others new) left run)

done_first : (old : State) (command : Command) (commands : List Command) (outcome : Outcome) (outcomes : List Outcome)
    (mid new : State) (b : Bool) → is_want outcome ≡ b → IsStep old command outcome mid
    → DoneRun mid commands outcomes new → DoneRun old (command ∷ commands) (outcome ∷ outcomes) new
done_first old command commands outcome outcomes mid new true h step (next, others, are, run) =
    let want : outcome ≡ out_of_memory = is_out_of_memory outcome h in
    let left : LeavesInWant old command.request mid = left_in_want old command mid (subst (λ o. IsStep old command o mid) want step) in
    let (done, answers, was, ample) = done_in_want old mid command.request next others new left run in
    (done, answers, (next, others, inr (want, was), are), ample)
done_first old command commands outcome outcomes mid new false h step (next, others, are, run) =
    let found : outcome ≢ out_of_memory = no_want outcome h in
    (command ∷ next, outcome ∷ others, (next, others, inl (found, refl, refl), are), ((mid, step, run.0), (found, run.1)))

pub done_of_run : (old : State) (commands : List Command) (outcomes : List Outcome) (new : State)
    → IsRun old commands outcomes new → DoneRun old commands outcomes new
done_of_run old [] [] new run = ([], [], (refl, refl), (run, tt))
done_of_run old (command ∷ commands) (outcome ∷ outcomes) new (mid, step, run) =
    done_first old command commands outcome outcomes mid new (is_want outcome) refl step (done_of_run mid commands outcomes new run)
done_of_run old commands outcomes new run = absurd run

-- where no step wanted memory all was done
one_done : (command : Command) (outcome : Outcome) (done next : List Command) (answers others : List Outcome)
    → outcome ≢ out_of_memory → WasDone command outcome done answers next others
    → (done ≡ command ∷ next) × (answers ≡ outcome ∷ others)
one_done command outcome done next answers others none was = search rules

pub all_done : (commands done : List Command) (outcomes answers : List Outcome) → NoneWantsMemory outcomes
    → IsDoneOf commands outcomes done answers → (done ≡ commands) × (answers ≡ outcomes)
all_done [] done [] answers none is = is
all_done (command ∷ commands) done (outcome ∷ outcomes) answers none (next, others, was, are) =
    let first = one_done command outcome done next answers others none.0 was in
    let rest = all_done commands next outcomes others none.1 are in
    (first.0 ∙ ap (λ cs. command ∷ cs) rest.0, first.1 ∙ ap (λ os. outcome ∷ os) rest.1)
all_done commands done outcomes answers none is = absurd is

-- a run in which no step wants memory gives outcomes of its commands, and the state that they leave
pub ample_outcomes : (old : State) (commands : List Command) (outcomes : List Outcome) (new : State)
    → IsAmpleRun old commands outcomes new → AreOutcomes old commands outcomes
ample_outcomes old (command ∷ commands) (outcome ∷ outcomes) new ((mid, step, run), none) =
    search (rules, given_step, (ample_outcomes mid commands outcomes new (run, none.1)))
ample_outcomes old commands outcomes new ample = search rules

pub ample_state : (old : State) (commands : List Command) (outcomes : List Outcome) (new : State)
    → IsAmpleRun old commands outcomes new → new ≡ state_after_all old commands
ample_state old (command ∷ commands) (outcome ∷ outcomes) new ((mid, step, run), none) =
    search (rules, given_step, (ample_state mid commands outcomes new (run, none.1)))
ample_state old commands outcomes new ample = search rules

outcomes_run : (old : State) (commands : List Command) (outcomes : List Outcome) → AreOutcomes old commands outcomes
    → IsRun old commands outcomes (state_after_all old commands)
outcomes_run old (command ∷ commands) (outcome ∷ outcomes) are =
    (state_after old command, inl (are.0, refl), outcomes_run (state_after old command) commands outcomes are.1)
outcomes_run old commands outcomes are = search rules

outcomes_given : (old : State) (commands : List Command) (outcomes : List Outcome) → AreOutcomes old commands outcomes
    → NoneWantsMemory outcomes
outcomes_given old (command ∷ commands) (outcome ∷ outcomes) are =
    search (rules, never_wanted, (outcomes_given (state_after old command) commands outcomes are.1))
outcomes_given old commands outcomes are = search rules

-- and each list of outcomes is that of such a run
pub ample_from_outcomes : (old : State) (commands : List Command) (outcomes : List Outcome)
    → AreOutcomes old commands outcomes → IsAmpleRun old commands outcomes (state_after_all old commands)
ample_from_outcomes old commands outcomes are = search (rules, outcomes_run, outcomes_given)

pub ample_one : (old : State) (commands : List Command) (outcomes others : List Outcome) (new also : State)
    → AreFixed old commands → IsAmpleRun old commands outcomes new → IsAmpleRun old commands others also
    → outcomes ≡ others
ample_one old commands outcomes others new also fixed run other = search (rules, one_outcomes, ample_outcomes)

-- two runs of commands of equal meaning from states of equal meaning, in which no step wants memory
module _ (f g : State) (commands also : List Command) (outcomes others : List Outcome) (f' g' : State) (means : MeanTheSame f g)
    (asks : AllAskTheSame commands also) (run : IsAmpleRun f commands outcomes f') (other : IsAmpleRun g also others g') where
  pub run_outcomes_alike : AreAlike f g commands also outcomes others
  run_outcomes_alike = search (rules, all_outcomes_alike, ample_outcomes)

  pub run_states_alike : MeanTheSame f' g'
  run_states_alike name = search (rules, ample_state, states_alike)

-- a run goes through the step of each of its commands
pub run_through : (old : State) (first : List Command) (command : Command) (later : List Command) (os : List Outcome)
    (o : Outcome) (ps : List Outcome) (new : State) → length first ≡ length os
    → IsRun old (first ++ command ∷ later) (os ++ o ∷ ps) new
    → (mid next : State) × IsRun old first os mid × IsStep mid command o next × IsRun next later ps new
run_through old [] command later [] o ps new e (next, step, run) = (old, next, refl, step, run)
run_through old (c ∷ first) command later (p ∷ os) o ps new e (mid, step, run) =
    let same : length first ≡ length os = omega (arith, e) in
    let rest : (from next : State) × IsRun mid first os from × IsStep from command o next × IsRun next later ps new =
    run_through mid first command later os o ps new same run in
    (rest.0, rest.1, (mid, step, rest.2), rest.3, rest.4)
run_through old [] command later (p ∷ os) o ps new e run = absurd (omega (arith, e))
run_through old (c ∷ first) command later [] o ps new e run = absurd (omega (arith, e))

pub ruleset laws = (ample_outcomes, ample_state, ample_from_outcomes, run_outcomes_alike, run_states_alike)
