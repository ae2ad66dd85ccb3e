-- Answers that take no memory, and that nothing refuses.
use Rattle.std.specs.Prelude.{Option, Some, None, Ok, Err, is_some}
use Rattle.tera_meaning.specs.Answer
use Rattle.tera_meaning.specs.Answer.{AnswerOf}
use Rattle.tera_meaning.specs.Arithmetic.{as_i128}
use Rattle.tera_meaning.specs.Form.{Form}
use Rattle.tera_meaning.specs.Kind.{kind_in}
use Rattle.tera_meaning.specs.Meaning.{meaning}
use Rattle.tera_meaning.specs.Outcome.{Outcome}
use Rattle.tera_meaning.specs.Question.{Question, has, truthy, is_safe, len, kind}
use Rattle.tera_meaning.specs.Read.{safe_in, size_in, truthy_in}
use Rattle.tera_meaning.specs.Search.{Found}
use Rattle.tera_meaning.specs.State.{read}
use Rattle.tera_meaning.specs.Weighing.{Weighing, contains, weighed}
use Rattle.tera_values.specs.Kind.{kind_form}
use Rattle.tera_context.specs.declared.known.Known.{Known}
use Rattle.tera_context.specs.declared.known.Known.TheVariants as known

abbrev pub known_form : Known → AnswerOf Form
known_form (known.Truth b) = Answer.truth b
known_form (known.Order o) = Answer.order o
known_form (known.Size n) = Answer.size n
known_form (known.Kind k) = Answer.kind (kind_form k)
known_form (known.Number z) = Answer.found (Some (as_i128 z))

-- what is told of what a name holds, if that takes no memory
abbrev pub question_known : Question → Option Form → Option (AnswerOf Form)
question_known has held = Some (Answer.truth (is_some held))
question_known truthy held = Some (Answer.truth (truthy_in (meaning (read held))))
question_known is_safe held = Some (Answer.truth (safe_in (read held)))
question_known len held = Some (Answer.size (size_in (meaning (read held))))
question_known kind held = Some (Answer.kind (kind_in (read held)))
question_known _ held = None

-- what is told of what a search finds, where it is not refused
abbrev pub found_known : Found → Option (AnswerOf Form)
found_known (Ok part) = Some (Answer.found part)
found_known (Err refusal) = None

-- what is told, where it is not refused
abbrev pub unless_refused : Outcome → Option (AnswerOf Form)
unless_refused (Ok answer) = Some answer
unless_refused (Err refusal) = None

-- what is told of two values, if that takes no memory
abbrev pub weighing_known : Weighing → Form → Form → Option (AnswerOf Form)
weighing_known contains v w = None
weighing_known weighing v w = unless_refused (weighed weighing v w)
