-- One step of the model: what a request comes to, and what it leaves.
use Rattle.std.specs.Prelude.{◌≡◌, ◌⊎◌, ⊤, ℕ, List, Option, Some, None, Ok, Err, IsErr, IsSome}
use Rattle.std.specs.FinMap.{get as held_at, insert, remove as without}
use Rattle.tera_meaning.specs.Answer
use Rattle.tera_meaning.specs.Search.{Found, found_at, CopyTakes, FoundTakes}
use Rattle.tera_meaning.specs.Form.{Form}
use Rattle.tera_meaning.specs.Outcome.{Outcome, out_of_memory}
use Rattle.tera_meaning.specs.Question.{IsAnswered, IsFixedAnswer, TakesMemory}
use Rattle.tera_meaning.specs.Read.{marked_safe}
use Rattle.tera_meaning.specs.Request.{Request, set, extend, remove, mark_safe, ask, weigh, find}
use Rattle.tera_meaning.specs.Request.{Command, asking}
use Rattle.tera_meaning.specs.State.{State, form_at, layout_at, extended, IsProperBeginning}
use Rattle.tera_meaning.specs.Weighing.{weighed}

-- what is found is kept where a name for it is given, and is else the answer itself. A refusal is
-- passed on
abbrev pub found_or_kept : Option (List ℕ) → Found → Outcome
found_or_kept None (Ok value) = Ok (Answer.found value)
found_or_kept (Some into) (Ok None) = Ok (Answer.found None)
found_or_kept (Some into) (Ok (Some value)) = Ok Answer.done
found_or_kept into (Err refusal) = Err refusal

abbrev pub keeping : State → Option (List ℕ) → Found → State
keeping state (Some into) (Ok (Some value)) = insert state into value
keeping state into found = state

-- what is held at a name is marked safe, and a name that is absent stays absent
abbrev pub marking : State → List ℕ → Option Form → State
marking state name None = state
marking state name (Some value) = insert state name (marked_safe value)

-- where a name for it is given, the marked form is kept there, and what it was made of stays
abbrev pub marking_into : State → List ℕ → Option (List ℕ) → State
marking_into state name None = marking state name (held_at state name)
marking_into state name (Some into) = insert state into (marked_safe (form_at state name))

-- what a request comes to
abbrev pub ComesTo : State → Request → Option (List ℕ) → Outcome → Type 0
ComesTo state (set name value) into outcome = outcome ≡ Ok Answer.done
ComesTo state (extend source) into outcome = outcome ≡ Ok Answer.done
ComesTo state (remove name) into outcome = outcome ≡ Ok (Answer.found (held_at state name))
ComesTo state (mark_safe name) into outcome = outcome ≡ Ok Answer.done
ComesTo state (ask question name) into outcome = IsAnswered question (held_at state name) outcome
ComesTo state (weigh weighing left right) into outcome =
    outcome ≡ weighed weighing (form_at state left) (form_at state right)
ComesTo state (find search) into outcome = outcome ≡ found_or_kept into (found_at state search)

abbrev pub IsOutcome : State → Command → Outcome → Type 0
IsOutcome state command outcome = ComesTo state command.request command.into outcome

-- the outcome is one: what is printed for it, if anything, is exact
abbrev pub IsFixed : State → Request → Type 0
IsFixed state (set name value) = ⊤
IsFixed state (extend source) = ⊤
IsFixed state (remove name) = ⊤
IsFixed state (mark_safe name) = ⊤
IsFixed state (ask question name) = IsFixedAnswer question (layout_at state name)
IsFixed state (weigh weighing left right) = ⊤
IsFixed state (find search) = ⊤

-- the request alone has this outcome, and no other
abbrev pub ComesOnlyTo : State → Request → Outcome → Type 0
ComesOnlyTo state request outcome =
    (given : Outcome) → IsOutcome state (asking request) given → given ≡ outcome

-- what the request leaves
abbrev pub leaves : State → Request → Option (List ℕ) → State
leaves state (set name value) into = insert state name value
leaves state (extend source) into = extended state source
leaves state (remove name) into = without state name
leaves state (mark_safe name) into = marking_into state name into
leaves state (ask question name) into = state
leaves state (weigh weighing left right) into = state
leaves state (find search) into = keeping state into (found_at state search)

abbrev pub state_after : State → Command → State
state_after state command = leaves state command.request command.into

-- keeping a value takes memory: its name is new
abbrev pub KeepTakes : State → List ℕ → Type 0
KeepTakes state name = held_at state name ≡ None

-- and so it is with what is found, which is kept where a name for it is given
abbrev pub FoundKeepTakes : State → Option (List ℕ) → Found → Type 0
FoundKeepTakes state (Some into) (Ok (Some value)) = KeepTakes state into
FoundKeepTakes state into found = ⊥

-- to take over a source takes memory: it has a name that is new
abbrev pub ExtendTakes : State → State → Type 0
ExtendTakes state source = (name : List ℕ) × IsSome (held_at source name) × KeepTakes state name

-- a request may want memory: to keep values or a copy, for an answer that takes memory, and for the
-- text of a refusal
abbrev pub MayWant : State → Request → Option (List ℕ) → Type 0
MayWant state (set name value) into = KeepTakes state name
MayWant state (extend source) into = ExtendTakes state source
MayWant state (remove name) into = ⊥
MayWant state (mark_safe name) None = ⊥
MayWant state (mark_safe name) (Some into) =
    CopyTakes (form_at state name) ⊎ KeepTakes state into
MayWant state (ask question name) into = TakesMemory question (form_at state name)
MayWant state (weigh weighing left right) into =
    IsErr (weighed weighing (form_at state left) (form_at state right))
MayWant state (find search) into =
    FoundTakes search (found_at state search) ⊎ FoundKeepTakes state into (found_at state search)

abbrev pub MayWantMemory : State → Command → Type 0
MayWantMemory state command = MayWant state command.request command.into

-- what want of memory leaves: the state as it was; but of `extend` some first names of its source
-- are taken over, fewer than all
abbrev pub LeavesInWant : State → Request → State → Type 0
LeavesInWant old (extend source) new =
    (part : State) × IsProperBeginning part source × (new ≡ extended old part)
LeavesInWant old _ new = new ≡ old

-- the command's outcome and the state after it; or, of one that may want memory, want of it, and
-- what this leaves
abbrev pub IsStep : State → Command → Outcome → State → Type 0
IsStep old command outcome new =
    (IsOutcome old command outcome × (new ≡ state_after old command))
    ⊎ (MayWantMemory old command × (outcome ≡ out_of_memory) × LeavesInWant old command.request new)
