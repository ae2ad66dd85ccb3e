-- From the code's steps and answers to those of the model.
use Rattle.std.specs.Prelude.{map}
use Rattle.std.specs.Option.{option_map}
use Rattle.std.specs.String.{string_bytes}
use Rattle.tera_meaning.specs.Answer
use Rattle.tera_meaning.specs.Answer.{AnswerOf}
use Rattle.tera_meaning.specs.Form.{Form}
use Rattle.tera_meaning.specs.Question
use Rattle.tera_meaning.specs.Request.{Request, set, extend, remove, mark_safe, ask, weigh, find}
use Rattle.tera_meaning.specs.Request.{Command}
use Rattle.tera_meaning.specs.Search
use Rattle.tera_meaning.specs.Weighing
use Rattle.tera_scalars.specs.Operation.{operator_of}
use Rattle.tera_values.specs.Converted.{integer_type}
use Rattle.tera_values.specs.Kind.{kind_form}
use Rattle.tera_context.specs.declared.call.Answer.{Answer as CodeAnswer}
use Rattle.tera_context.specs.declared.call.Answer.TheVariants as answer
use Rattle.tera_context.specs.declared.call.Call.{Call}
use Rattle.tera_context.specs.declared.call.Call.TheVariants as call
use Rattle.tera_context.specs.declared.call.Step.{Step}

-- how a call touches the state
abbrev pub request_of : Call → Request
request_of (call.Set name value) = set (string_bytes name) value
request_of (call.Extend source) = extend source
request_of (call.Remove name) = remove (string_bytes name)
request_of (call.Has name) = ask Question.has (string_bytes name)
request_of (call.Get name) = find (Search.get (string_bytes name))
request_of (call.Path name path) = find (Search.path (string_bytes name) (string_bytes path))
request_of (call.Attr name attr) = find (Search.attr (string_bytes name) (string_bytes attr))
request_of (call.Item name item) = find (Search.item (string_bytes name) (string_bytes item))
request_of (call.Slice name start end step) = find (Search.slice (string_bytes name) start end step)
request_of (call.Reverse name) = find (Search.reverse (string_bytes name))
request_of (call.Binary op left right) =
    find (Search.calculate (operator_of op) (string_bytes left) (string_bytes right))
request_of (call.Negate name) = find (Search.negate (string_bytes name))
request_of (call.Read name to) = find (Search.read (integer_type to) (string_bytes name))
request_of (call.Len name) = ask Question.len (string_bytes name)
request_of (call.Truthy name) = ask Question.truthy (string_bytes name)
request_of (call.Kind name) = ask Question.kind (string_bytes name)
request_of (call.IsSafe name) = ask Question.is_safe (string_bytes name)
request_of (call.MarkSafe name) = mark_safe (string_bytes name)
request_of (call.Equal left right) = weigh Weighing.equal (string_bytes left) (string_bytes right)
request_of (call.Compare left right) = weigh Weighing.compare (string_bytes left)
    (string_bytes right)
request_of (call.TryCompare left right) = weigh Weighing.try_compare (string_bytes left)
    (string_bytes right)
request_of (call.Contains name needle) = weigh Weighing.contains (string_bytes name)
    (string_bytes needle)
request_of (call.Print name) = ask Question.print (string_bytes name)
request_of (call.Escape name) = ask Question.escape (string_bytes name)
request_of (call.Fields name) = ask Question.fields (string_bytes name)
request_of (call.Walk name) = ask Question.walk (string_bytes name)

abbrev pub command_of : Step → Command
command_of step = record {
  request = request_of step.call;
  into = option_map string_bytes step.into;
}

abbrev pub answer_of : CodeAnswer → AnswerOf Form
answer_of answer.Done = Answer.done
answer_of (answer.Truth b) = Answer.truth b
answer_of (answer.Order o) = Answer.order o
answer_of (answer.Found v) = Answer.found v
answer_of (answer.Size n) = Answer.size n
answer_of (answer.Kind k) = Answer.kind (kind_form k)
answer_of (answer.Text t) = Answer.text (string_bytes t)
answer_of (answer.Texts ts) = Answer.texts (map string_bytes ts.items)
answer_of (answer.Walked ts) = Answer.walked (map string_bytes ts.items)
