-- What a step comes to: an answer, or a refusal.
use Rattle.std.specs.Prelude.{Bool, true, false, Result, Ok, Err}
use Rattle.std.specs.Option.{option_map}
use Rattle.tera_report.specs.Refusal.{Refusal, memory_refused, shape as refusal_shape}
use Rattle.tera_meaning.specs.Answer
use Rattle.tera_meaning.specs.Answer.{AnswerOf}
use Rattle.tera_meaning.specs.Form.{Form}
use Rattle.tera_meaning.specs.Meaning.{Meaning, meaning}

abbrev pub OutcomeOf : Type 0 → Type 0
OutcomeOf V = Result (AnswerOf V) Refusal

abbrev pub Outcome : Type 0
Outcome = OutcomeOf Form

-- want of memory is one refusal among the others
abbrev pub out_of_memory : Outcome
out_of_memory = Err memory_refused

abbrev pub is_want : Outcome → Bool
is_want (Err memory_refused) = true
is_want _ = false

-- an answer with what is found by its meaning
abbrev pub answer_shape : AnswerOf Form → AnswerOf Meaning
answer_shape Answer.done = Answer.done
answer_shape (Answer.truth b) = Answer.truth b
answer_shape (Answer.order o) = Answer.order o
answer_shape (Answer.found value) = Answer.found (option_map meaning value)
answer_shape (Answer.size n) = Answer.size n
answer_shape (Answer.kind k) = Answer.kind k
answer_shape (Answer.text t) = Answer.text t
answer_shape (Answer.texts ts) = Answer.texts ts
answer_shape (Answer.walked ts) = Answer.walked ts

-- an outcome with what is found by its meaning, and a refusal without the name of a value's kind
abbrev pub shape : Outcome → OutcomeOf Meaning
shape (Ok answer) = Ok (answer_shape answer)
shape (Err refusal) = Err (refusal_shape refusal)
