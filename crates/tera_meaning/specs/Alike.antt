-- States, commands and answers of equal meaning.
use Rattle.std.specs.Prelude.{◌≡◌, ℕ, ⊤, List, [], ◌∷◌, Option, Result, Ok, Err}
use Rattle.std.specs.List.{AllZip}
use Rattle.std.specs.Option.{option_map}
use Rattle.std.specs.FinMap.{get as held_at}
use Rattle.tera_report.specs.Refusal.{Refusal, shape as refusal_shape}
use Rattle.tera_meaning.specs.Answer
use Rattle.tera_meaning.specs.Answer.{AnswerOf}
use Rattle.tera_meaning.specs.Form.{Form}
use Rattle.tera_meaning.specs.Meaning.{Layout, Meaning, layout, meaning}
use Rattle.tera_meaning.specs.Outcome.{Outcome, OutcomeOf, shape}
use Rattle.tera_meaning.specs.Question
use Rattle.tera_meaning.specs.Question.{IsSettledAnswer}
use Rattle.tera_meaning.specs.Request.{Request, set, extend, remove, mark_safe, ask, weigh, find}
use Rattle.tera_meaning.specs.Request.{Command, asking}
use Rattle.tera_meaning.specs.Run.{AreOutcomes, IsAmpleRun}
use Rattle.tera_meaning.specs.Search.{Found}
use Rattle.tera_meaning.specs.State.{State, layout_at}
use Rattle.tera_meaning.specs.Step.{state_after}
use Rattle.tera_meaning.specs.Weighing

-- what is held at a name, by its meaning
abbrev pub meaning_held : State → List ℕ → Option Meaning
meaning_held state name = option_map meaning (held_at state name)

-- the same names are held, and each means the same
abbrev pub MeanTheSame : State → State → Type 0
MeanTheSame f g = (name : List ℕ) → meaning_held f name ≡ meaning_held g name

-- the same names are held, and each is laid out the same
abbrev pub LaidOutTheSame : State → State → Type 0
LaidOutTheSame f g =
    (name : List ℕ) → option_map layout (held_at f name) ≡ option_map layout (held_at g name)

-- what is found by its layout, and a refusal without the name of a value's kind
abbrev pub found_layout : Found → Result (Option Layout) Refusal
found_layout (Ok value) = Ok (option_map layout value)
found_layout (Err refusal) = Err (refusal_shape refusal)

-- an answer with what is found by its layout
abbrev pub answer_layout : AnswerOf Form → AnswerOf Layout
answer_layout Answer.done = Answer.done
answer_layout (Answer.truth b) = Answer.truth b
answer_layout (Answer.order o) = Answer.order o
answer_layout (Answer.found value) = Answer.found (option_map layout value)
answer_layout (Answer.size n) = Answer.size n
answer_layout (Answer.kind k) = Answer.kind k
answer_layout (Answer.text t) = Answer.text t
answer_layout (Answer.texts ts) = Answer.texts ts
answer_layout (Answer.walked ts) = Answer.walked ts

-- an outcome with what is found by its layout, and a refusal without the name of a value's kind
abbrev pub outcome_layout : Outcome → OutcomeOf Layout
outcome_layout (Ok answer) = Ok (answer_layout answer)
outcome_layout (Err refusal) = Err (refusal_shape refusal)

-- the same request; and where it keeps values, these of the same meaning
abbrev pub RequestTheSame : Request → Request → Type 0
RequestTheSame (set m v) (set n w) = (m ≡ n) × (meaning v ≡ meaning w)
RequestTheSame (extend source) (extend other) = MeanTheSame source other
RequestTheSame request also = request ≡ also

-- the same request, and what it finds is to be kept under the same name
abbrev pub AskTheSame : Command → Command → Type 0
AskTheSame command also = RequestTheSame command.request also.request × (command.into ≡ also.into)

-- the same commands, one for one
abbrev pub AllAskTheSame : List Command → List Command → Type 0
AllAskTheSame asked also = AllZip AskTheSame asked also

-- from two states of equal meaning the outcomes are of one shape: of a walk this holds where the
-- layouts are equal, and of what is printed where they are equal and exact
abbrev pub IsSettled : State → State → Request → Type 0
IsSettled f g (set name value) = ⊤
IsSettled f g (extend source) = ⊤
IsSettled f g (remove name) = ⊤
IsSettled f g (mark_safe name) = ⊤
IsSettled f g (ask question name) = IsSettledAnswer question (layout_at f name) (layout_at g name)
IsSettled f g (weigh weighing left right) = ⊤
IsSettled f g (find search) = ⊤

-- so it is whatever the states hold
abbrev pub IsAlwaysSettled : Request → Type 0
IsAlwaysSettled request = (f g : State) → IsSettled f g request

-- the outcomes of two lists of commands from two states have the same shapes, one for one, wherever
-- these are settled
abbrev pub AreAlike : State → State → List Command → List Command → List Outcome → List Outcome
    → Type 0
AreAlike f g [] [] [] [] = ⊤
AreAlike f g (command ∷ commands) (also ∷ more) (outcome ∷ outcomes) (other ∷ others) =
    (IsSettled f g command.request → shape outcome ≡ shape other)
    × AreAlike (state_after f command) (state_after g also) commands more outcomes others
AreAlike _ _ _ _ _ _ = ⊥

-- from these states the same commands come to outcomes of the same shapes, wherever these are
-- settled
abbrev pub AnswerAlike : State → State → Type 0
AnswerAlike f g =
    (commands also : List Command) (outcomes others : List Outcome) → AllAskTheSame commands also
    → AreOutcomes f commands outcomes → AreOutcomes g also others
    → AreAlike f g commands also outcomes others

-- whatever the commands come to from these states, the shapes of some outcome that is settled
-- differ
abbrev pub AreToldApartBy : List Command → State → State → Type 0
AreToldApartBy commands f g =
    (outcomes others : List Outcome) → AreOutcomes f commands outcomes
    → AreOutcomes g commands others
    → AreAlike f g commands commands outcomes others → ⊥

-- runs of the commands from these states, in which no step wants memory, come to outcomes that are
-- not alike
abbrev pub RunsAreToldApart : List Command → State → State → Type 0
RunsAreToldApart commands f g =
    (outcomes others : List Outcome) (f' g' : State) → IsAmpleRun f commands outcomes f'
    → IsAmpleRun g commands others g' → AreAlike f g commands commands outcomes others → ⊥

-- commands that compare what a name holds with a value: whether it holds one; and the value is set
-- under another name and compared with it
abbrev pub probe : List ℕ → Form → List Command
probe name value =
    asking (ask Question.has name) ∷ asking (set (0 ∷ name) value)
    ∷ asking (weigh Weighing.equal name (0 ∷ name)) ∷ []
