-- What the results of steps show.
use Rattle.std.specs.Prelude.{◌≡◌, Result, Ok, Err}
use Rattle.tera_report.specs.declared.errors.Error.{Error}
use Rattle.tera_report.specs.Errors.{Shows}
use Rattle.tera_report.specs.Refusal.{Refusal}
use Rattle.tera_meaning.specs.Outcome.{Outcome}
use Rattle.tera_context.specs.declared.call.Answer.{Answer}
use Rattle.tera_context.specs.Call.{answer_of}

-- an answer shows itself, and an error the refusal that it states
abbrev pub ShowsOutcome : Result Answer Error → Outcome → Type 0
ShowsOutcome (Ok answer) outcome = outcome ≡ Ok (answer_of answer)
ShowsOutcome (Err e) outcome = (refusal : Refusal) × Shows refusal e × (outcome ≡ Err refusal)

-- the outcome that a result shows is one of these
abbrev pub ShowsOneOf : Result Answer Error → (Outcome → Type 0) → Type 0
ShowsOneOf (Ok answer) P = P (Ok (answer_of answer))
ShowsOneOf (Err e) P = (refusal : Refusal) × Shows refusal e × P (Err refusal)
