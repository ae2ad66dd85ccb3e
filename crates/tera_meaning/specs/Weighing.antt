-- How two values are weighed.
use Rattle.std.specs.Prelude.{Bool, Some, Result, Ok, Err}
use Rattle.tera_report.specs.Refusal.{Refusal}
use Rattle.tera_meaning.specs.Answer
use Rattle.tera_meaning.specs.Decided.{decided}
use Rattle.tera_meaning.specs.Form.{Form}
use Rattle.tera_meaning.specs.Lookup.{holds}
use Rattle.tera_meaning.specs.Meaning.{meaning}
use Rattle.tera_meaning.specs.Order
use Rattle.tera_meaning.specs.Outcome.{Outcome}

pub data Weighing : Type 0 where
  equal : Weighing
  compare : Weighing
  try_compare : Weighing
  contains : Weighing

-- a truth that is told, or a refusal
abbrev pub truth_told : Result Bool Refusal → Outcome
truth_told (Ok b) = Ok (Answer.truth b)
truth_told (Err refusal) = Err refusal

-- what is answered of two values
abbrev pub weighed : Weighing → Form → Form → Outcome
weighed equal v w = Ok (Answer.truth (Order.same (meaning v) (meaning w)))
weighed compare v w = Ok (Answer.order (Some (Order.compare (meaning v) (meaning w))))
weighed try_compare v w = Ok (Answer.order (decided (meaning v) (meaning w)))
weighed contains v w = truth_told (holds v w)
