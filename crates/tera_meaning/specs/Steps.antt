-- What the laws of steps say of a request.
use Rattle.std.specs.Prelude.{◌≡◌, ℕ, List, Option, Some, None, Ok}
use Rattle.std.specs.FinMap.{get as held_at}
use Rattle.tera_meaning.specs.Answer
use Rattle.tera_meaning.specs.Answer.{AnswerOf}
use Rattle.tera_meaning.specs.Form.{Form}
use Rattle.tera_meaning.specs.Meaning.{layout}
use Rattle.tera_meaning.specs.Outcome.{Outcome}
use Rattle.tera_meaning.specs.Printed.{IsExact}
use Rattle.tera_meaning.specs.Request.{Request, find}
use Rattle.tera_meaning.specs.Search.{Search}
use Rattle.tera_meaning.specs.State.{State}
use Rattle.tera_meaning.specs.Step.{ComesOnlyTo, IsStep}

-- of a name that holds a value the request has this answer, and no other
abbrev pub HeldAnswers : (List ℕ → Request) → (Form → AnswerOf Form) → Type 0
HeldAnswers request answer =
    (state : State) (name : List ℕ) (value : Form) → held_at state name ≡ Some value
    → ComesOnlyTo state (request name) (Ok (answer value))

-- of a name that holds a value whose layout is exact the request has this answer, and no other
abbrev pub ExactAnswers : (List ℕ → Request) → (Form → AnswerOf Form) → Type 0
ExactAnswers request answer =
    (state : State) (name : List ℕ) (value : Form) → held_at state name ≡ Some value
    → IsExact (layout value)
    → ComesOnlyTo state (request name) (Ok (answer value))

-- of a name that is not held the request has this answer, and no other
abbrev pub AbsentAnswers : (List ℕ → Request) → AnswerOf Form → Type 0
AbsentAnswers request answer =
    (state : State) (name : List ℕ) → held_at state name ≡ None
    → ComesOnlyTo state (request name) (Ok answer)

-- of two names that are not held the request has this answer, and no other
abbrev pub BothAbsentAnswer : (List ℕ → List ℕ → Request) → AnswerOf Form → Type 0
BothAbsentAnswer request answer =
    (state : State) (left right : List ℕ) → held_at state left ≡ None → held_at state right ≡ None
    → ComesOnlyTo state (request left right) (Ok answer)

-- each step of the request, with this name for what it finds, has this answer and leaves this state
abbrev pub StepsOnlyTo : State → Request → Option (List ℕ) → AnswerOf Form → State → Type 0
StepsOnlyTo old request into answer after =
    (new : State) (outcome : Outcome)
    → IsStep old (record { request = request; into = into }) outcome new
    → (outcome ≡ Ok answer) × (new ≡ after)

-- each step of the request, whatever name is given for what it finds, has this answer and leaves
-- this state
abbrev pub HasOneStep : (List ℕ → Request) → (State → List ℕ → AnswerOf Form)
    → (State → List ℕ → State) → Type 0
HasOneStep request answer after =
    (old : State) (name : List ℕ) (into : Option (List ℕ))
    → StepsOnlyTo old (request name) into (answer old name) (after old name)

-- each step of the request has this answer, and leaves the state as it was
abbrev pub HasOneAnswer : (List ℕ → Request) → (State → List ℕ → AnswerOf Form) → Type 0
HasOneAnswer request answer = HasOneStep request answer (λ old name. old)

-- each step of the search, with no name for what it finds, answers this value and changes nothing
abbrev pub OnlyFinds : State → Search → Form → Type 0
OnlyFinds state search value =
    StepsOnlyTo state (find search) None (Answer.found (Some value)) state
