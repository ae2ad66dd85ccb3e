-- What an answer of the code states.
use Rattle.std.specs.Prelude.{Result, Ok, Err}
use Rattle.tera_report.specs.declared.errors.Error.{Error}
use Rattle.tera_report.specs.Errors.{kind_of, refusal_of}
use Rattle.tera_meaning.specs.Outcome.{Outcome}
use Rattle.tera_context.specs.declared.call.Answer.{Answer}
use Rattle.tera_context.specs.Call.{answer_of}

-- the answer itself, or the refusal that the error's kind states
abbrev pub outcome_stated : Result Answer Error → Outcome
outcome_stated (Ok answer) = Ok (answer_of answer)
outcome_stated (Err e) = Err (refusal_of (kind_of e))
