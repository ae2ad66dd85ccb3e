-- Whole runs.
use Rattle.std.specs.Prelude.{◌≡◌, ◌≢◌, ◌⊎◌, ⊤, List, [], ◌∷◌, Ok, OnErr}
use Rattle.std.specs.List.{AllByRecursion, fold}
use Rattle.tera_meaning.specs.Answer
use Rattle.tera_meaning.specs.State.{State, IsProperBeginning}
use Rattle.tera_meaning.specs.Outcome.{Outcome, out_of_memory}
use Rattle.tera_meaning.specs.Request.{Command, Request, extend, asking}
use Rattle.tera_meaning.specs.Step.{IsOutcome, IsFixed, IsStep, state_after}

-- from old the commands come to these outcomes, one each, one step after another, and leave new
abbrev pub IsRun : State → List Command → List Outcome → State → Type 0
IsRun old [] [] new = new ≡ old
IsRun old (command ∷ commands) (outcome ∷ outcomes) new =
    (mid : State) × IsStep old command outcome mid × IsRun mid commands outcomes new
IsRun old [] (outcome ∷ outcomes) new = ⊥
IsRun old (command ∷ commands) [] new = ⊥

-- a run in which what is refused changes nothing
abbrev pub IsKeepingRun : State → List Command → List Outcome → State → Type 0
IsKeepingRun old [] [] new = new ≡ old
IsKeepingRun old (command ∷ commands) (outcome ∷ outcomes) new =
    (mid : State) × IsStep old command outcome mid × OnErr outcome (mid ≡ old)
    × IsKeepingRun mid commands outcomes new
IsKeepingRun old [] (outcome ∷ outcomes) new = ⊥
IsKeepingRun old (command ∷ commands) [] new = ⊥

-- the commands come to these, one after another, where none wants memory
abbrev pub AreOutcomes : State → List Command → List Outcome → Type 0
AreOutcomes state [] [] = ⊤
AreOutcomes state (command ∷ commands) (outcome ∷ outcomes) =
    IsOutcome state command outcome × AreOutcomes (state_after state command) commands outcomes
AreOutcomes state [] (outcome ∷ outcomes) = ⊥
AreOutcomes state (command ∷ commands) [] = ⊥

-- each of these outcomes is one
abbrev pub AreFixed : State → List Command → Type 0
AreFixed state [] = ⊤
AreFixed state (command ∷ commands) =
    IsFixed state command.request × AreFixed (state_after state command) commands

-- what the commands leave, where none wants memory
abbrev pub state_after_all : State → List Command → State
state_after_all state commands = fold state_after state commands

-- what was done where a request wanted memory, before what was done next: nothing; but of `extend`
-- one of some first names of its source, fewer than all, which was done
abbrev pub WasDoneInWant : Request → List Command → List Outcome → List Command → List Outcome
    → Type 0
WasDoneInWant (extend source) done answers next others =
    (part : State) × IsProperBeginning part source
    × (done ≡ asking (extend part) ∷ next) × (answers ≡ Ok Answer.done ∷ others)
WasDoneInWant _ done answers next others = (done ≡ next) × (answers ≡ others)

-- what was done of a command, before what was done next: all of it, but where it wanted memory
abbrev pub WasDone : Command → Outcome → List Command → List Outcome → List Command → List Outcome
    → Type 0
WasDone command outcome done answers next others =
    ((outcome ≢ out_of_memory) × (done ≡ command ∷ next) × (answers ≡ outcome ∷ others))
    ⊎ ((outcome ≡ out_of_memory) × WasDoneInWant command.request done answers next others)

-- what was done of commands that came to these outcomes, and the answers to it
abbrev pub IsDoneOf : List Command → List Outcome → List Command → List Outcome → Type 0
IsDoneOf [] [] done answers = (done ≡ []) × (answers ≡ [])
IsDoneOf (command ∷ commands) (outcome ∷ outcomes) done answers =
    (next : List Command) × (others : List Outcome)
    × WasDone command outcome done answers next others × IsDoneOf commands outcomes next others
IsDoneOf _ _ done answers = ⊥

abbrev pub NoneWantsMemory : List Outcome → Type 0
NoneWantsMemory outcomes = AllByRecursion (λ outcome. outcome ≢ out_of_memory) outcomes

-- a run in which no step wants memory
abbrev pub IsAmpleRun : State → List Command → List Outcome → State → Type 0
IsAmpleRun old commands outcomes new = IsRun old commands outcomes new × NoneWantsMemory outcomes
