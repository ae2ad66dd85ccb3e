-- A run goes on by one step.
use Rattle.std.specs.Prelude.{List, [], ◌∷◌, ◌++◌, ◌≡◌, Result, Ok, Err, OnErr, refl}
use Rattle.std.proofs.Common.{subst, sym}
use Rattle.std.specs.List.{AllZip}
use Rattle.tera_report.specs.declared.errors.Error.{Error}
use Rattle.tera_meaning.specs.Outcome.{Outcome}
use Rattle.tera_meaning.specs.Request.{Command}
use Rattle.tera_meaning.specs.Run.{IsKeepingRun, IsRun}
use Rattle.tera_meaning.specs.State.{State}
use Rattle.tera_meaning.specs.Step.{IsStep}
use Rattle.tera_meaning.proofs.RunLaws.{keeping_run}
use Rattle.tera_context.specs.declared.call.Answer.{Answer}
use Rattle.tera_context.specs.Steps.{ShowsOutcome, ShowsOneOf}
use Rattle.tera_context.proofs.ShownLaws.{shown_outcome}

run_on : (old : State) (commands : List Command) (outcomes : List Outcome) (mid : State) (command : Command)
    (outcome : Outcome) (new : State) → IsKeepingRun old commands outcomes mid → IsStep mid command outcome new
    → OnErr outcome (new ≡ mid) → IsKeepingRun old (commands ++ command ∷ []) (outcomes ++ outcome ∷ []) new
run_on old [] [] mid command outcome new run step kept = (
  new,
  subst (λ state. IsStep state command outcome new) run step,
  subst (λ state. OnErr outcome (new ≡ state)) run kept,
  refl,
)
run_on old (c ∷ commands) (o ∷ outcomes) mid command outcome new (first, taken, left, run) step kept =
    (first, taken, left, run_on first commands outcomes mid command outcome new run step kept)
run_on old [] (o ∷ outcomes) mid command outcome new run step kept = absurd run
run_on old (c ∷ commands) [] mid command outcome new run step kept = absurd run

all_shown : (answers : List (Result Answer Error)) (outcomes : List Outcome) (answer : Result Answer Error)
    (outcome : Outcome) → AllZip ShowsOutcome answers outcomes → ShowsOutcome answer outcome
    → AllZip ShowsOutcome (answers ++ answer ∷ []) (outcomes ++ outcome ∷ [])
all_shown [] [] answer outcome all shows = (shows, tt)
all_shown (a ∷ answers) (o ∷ outcomes) answer outcome all shows =
    (all.0, all_shown answers outcomes answer outcome all.1 shows)
all_shown [] (o ∷ outcomes) answer outcome all shows = absurd all
all_shown (a ∷ answers) [] answer outcome all shows = absurd all

-- what a refused result leaves as it was, its outcome does
outcome_keeps : (answer : Result Answer Error) (outcome : Outcome) (old new : State) → ShowsOutcome answer outcome
    → OnErr answer (new ≡ old) → OnErr outcome (new ≡ old)
outcome_keeps (Ok answer) outcome old new shows kept = subst (λ o. OnErr o (new ≡ old)) (sym shows) tt
outcome_keeps (Err e) outcome old new (refusal, shows, is) kept = subst (λ o. OnErr o (new ≡ old)) (sym is) kept

-- these answers show the outcomes of a run in which what is refused changes nothing
abbrev pub ShowsKeepingRun : State → List Command → List (Result Answer Error) → State → Type 0
ShowsKeepingRun old commands answers new =
    (outcomes : List Outcome) × AllZip ShowsOutcome answers outcomes × IsKeepingRun old commands outcomes new

pub shown_on : (old : State) (commands : List Command) (answers : List (Result Answer Error)) (mid : State)
    (command : Command) (answer : Result Answer Error) (new : State) → ShowsKeepingRun old commands answers mid
    → ShowsOneOf answer (λ outcome. IsStep mid command outcome new) → OnErr answer (new ≡ mid)
    → ShowsKeepingRun old (commands ++ command ∷ []) (answers ++ answer ∷ []) new
shown_on old commands answers mid command answer new (outcomes, all, run) shown kept =
    let (outcome, shows, step) = shown_outcome answer (λ outcome. IsStep mid command outcome new) shown in (
      outcomes ++ outcome ∷ [],
      all_shown answers outcomes answer outcome all shows,
      run_on old commands outcomes mid command outcome new run step (outcome_keeps answer outcome mid new shows kept),
    )

-- and so they show those of a run
abbrev pub ShowsRun : State → List Command → List (Result Answer Error) → State → Type 0
ShowsRun old commands answers new =
    (outcomes : List Outcome) × AllZip ShowsOutcome answers outcomes × IsRun old commands outcomes new

pub shows_run : (old : State) (commands : List Command) (answers : List (Result Answer Error)) (new : State)
    → ShowsKeepingRun old commands answers new → ShowsRun old commands answers new
shows_run old commands answers new (outcomes, all, run) = (outcomes, all, keeping_run old commands outcomes new run)
