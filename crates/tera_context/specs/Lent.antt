-- What a context lends in the place of an answer.
use Rattle.std.specs.Prelude.{◌≡◌, ℕ, List, Option, Some, None, Ok}
use Rattle.std.specs.FinMap.{get as held_at}
use Rattle.std.specs.Option.{option_copied, option_map}
use Rattle.tera_meaning.specs.Answer
use Rattle.tera_meaning.specs.Answer.{AnswerOf}
use Rattle.tera_meaning.specs.Form.{Form}
use Rattle.tera_meaning.specs.Lookup.{attr as attr_of, held_item}
use Rattle.tera_meaning.specs.Meaning.{layout}
use Rattle.tera_meaning.specs.Outcome.{Outcome}
use Rattle.tera_meaning.specs.Path.{path as path_from}
use Rattle.tera_meaning.specs.Question.{Question, print}
use Rattle.tera_meaning.specs.Quoted.{Prints}
use Rattle.tera_meaning.specs.Request.{Request, Command, ask, find, weigh}
use Rattle.tera_meaning.specs.Search.{Search, get, path, attr, item, calculate, found_at}
use Rattle.tera_meaning.specs.State.{State, form_at}
use Rattle.tera_context.specs.declared.lent.Lent.{Lent}
use Rattle.tera_context.specs.declared.lent.Lent.TheVariants.{Found, Print, Tell}
use Rattle.tera_context.specs.Known.{found_known, known_form, question_known, weighing_known}

-- what is found, or nothing; the value whose printed text is the answer; or an answer that takes no
-- memory
pub data LentForm : Type 0 where
  found : Option Form → LentForm
  printed : Form → LentForm
  known : AnswerOf Form → LentForm

abbrev pub lent_form : Lent → LentForm
lent_form (Found part) = found (option_copied part)
lent_form (Print value) = printed value.now
lent_form (Tell answer) = known (known_form answer)

-- what is found by lending it, or nothing: what a name has, what a path leads to, what a map has at
-- a text, and an item that the value holds. All else that is found is a copy
abbrev pub part_lent : State → Search → Option (Option Form)
part_lent state (get name) = Some (held_at state name)
part_lent state (path name p) = Some (path_from (form_at state name) p)
part_lent state (attr name t) = Some (attr_of (form_at state name) t)
part_lent state (item name i) =
    option_map Some (held_item (form_at state name) (form_at state i))
part_lent state _ = None

-- what is found: a part, or what an operator computes
abbrev pub search_lent : State → Search → Option LentForm
search_lent state (calculate operator left right) =
    option_map known (found_known (found_at state (calculate operator left right)))
search_lent state search = option_map found (part_lent state search)

-- what a question is answered by
abbrev pub question_lent : Question → Option Form → Option LentForm
question_lent print held = option_map printed held
question_lent question held = option_map known (question_known question held)

-- what answers a request, where nothing is kept
abbrev pub request_lent : Option (List ℕ) → State → Request → Option LentForm
request_lent (Some into) state request = None
request_lent None state (find search) = search_lent state search
request_lent None state (ask question name) = question_lent question (held_at state name)
request_lent None state (weigh weighing left right) =
    option_map known (weighing_known weighing (form_at state left) (form_at state right))
request_lent None state _ = None

abbrev pub lent_at : State → Command → Option LentForm
lent_at state command = request_lent command.into state command.request

-- the outcomes for which it stands
abbrev pub StandsFor : LentForm → Outcome → Type 0
StandsFor (found part) outcome = outcome ≡ Ok (Answer.found part)
StandsFor (known answer) outcome = outcome ≡ Ok answer
StandsFor (printed value) outcome =
    (text : List ℕ) × Prints (layout value) text × (outcome ≡ Ok (Answer.text text))
