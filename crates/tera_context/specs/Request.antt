-- From requests over what is lent to those of the model.
use Rattle.std.specs.Prelude.{ℕ, List, Option}
use Rattle.std.specs.Borrow.{Bor}
use Rattle.std.specs.Option.{option_map}
use Rattle.std.specs.Cow.{cow_str_bytes}
use Rattle.tera_meaning.specs.Question
use Rattle.tera_meaning.specs.Question.{Question}
use Rattle.tera_meaning.specs.Request.{Request, Command, set, extend, remove, mark_safe, ask, weigh}
use Rattle.tera_meaning.specs.Request.{find}
use Rattle.tera_meaning.specs.Search
use Rattle.tera_meaning.specs.Search.{Search}
use Rattle.tera_meaning.specs.Weighing
use Rattle.tera_meaning.specs.Weighing.{Weighing}
use Rattle.tera_scalars.specs.Operation.{operator_of}
use Rattle.tera_values.specs.Converted.{integer_type}
use Rattle.tera_context.specs.declared.request.Command.{Command as LentCommand}
use Rattle.tera_context.specs.declared.request.Question.{Question as AskedQuestion}
use Rattle.tera_context.specs.declared.request.Question.TheVariants as question
use Rattle.tera_context.specs.declared.request.Request.{Request as LentRequest}
use Rattle.tera_context.specs.declared.request.Request.TheVariants as request
use Rattle.tera_context.specs.declared.request.Search.{Search as LentSearch}
use Rattle.tera_context.specs.declared.request.Search.TheVariants as sought
use Rattle.tera_context.specs.declared.request.Weighing.{Weighing as AskedWeighing}
use Rattle.tera_context.specs.declared.request.Weighing.TheVariants as weighing

abbrev pub question_of : AskedQuestion → Question
question_of question.Has = Question.has
question_of question.Truthy = Question.truthy
question_of question.IsSafe = Question.is_safe
question_of question.Len = Question.len
question_of question.Kind = Question.kind
question_of question.Print = Question.print
question_of question.Escape = Question.escape
question_of question.Fields = Question.fields
question_of question.Walk = Question.walk

abbrev pub weighing_of : AskedWeighing → Weighing
weighing_of weighing.Equal = Weighing.equal
weighing_of weighing.Compare = Weighing.compare
weighing_of weighing.TryCompare = Weighing.try_compare
weighing_of weighing.Contains = Weighing.contains

abbrev pub search_form : LentSearch → Search
search_form (sought.Get name) = Search.get name.now
search_form (sought.Path name path) = Search.path name.now (cow_str_bytes path)
search_form (sought.Attr name attr) = Search.attr name.now (cow_str_bytes attr)
search_form (sought.Item name item) = Search.item name.now item.now
search_form (sought.Slice name start end step) = Search.slice name.now start end step
search_form (sought.Reverse name) = Search.reverse name.now
search_form (sought.Binary op left right) =
    Search.calculate (operator_of op) left.now right.now
search_form (sought.Negate name) = Search.negate name.now
search_form (sought.Read name to) = Search.read (integer_type to) name.now

-- a request by what its names and texts are
abbrev pub request_form : LentRequest → Request
request_form (request.Set name value) = set name.now value
request_form (request.Extend source) = extend source
request_form (request.Remove name) = remove name.now
request_form (request.MarkSafe name) = mark_safe name.now
request_form (request.Ask q name) = ask (question_of q) name.now
request_form (request.Weigh w left right) = weigh (weighing_of w) left.now right.now
request_form (request.Find found) = find (search_form found)

-- a name that may be there, by its bytes
abbrev pub name_of : Option (Bor (List ℕ)) → Option (List ℕ)
name_of name = option_map (λ n. n.now) name

abbrev pub command_form : LentCommand → Command
command_form command = record {
  request = request_form command.request;
  into = name_of command.into;
}
