-- A call by the way in which it touches what a context holds.
use Rattle.std.specs.Prelude.{ℕ, Bool, true, false, List, Option, Some, None}
use Rattle.tera_meaning.specs.Search.{Search}
use Rattle.tera_meaning.specs.Form.{Form}
use Rattle.tera_meaning.specs.Question.{Question}
use Rattle.tera_meaning.specs.State.{State}
use Rattle.tera_meaning.specs.Weighing.{Weighing}

-- It keeps a value, takes over all that a source holds, takes a name away, marks a value in its
-- place, asks one value, weighs two, or finds something. Names stand as bytes and values as forms
pub data Request : Type 0 where
  set : (name : List ℕ) (value : Form) → Request
  extend : (source : State) → Request
  remove : (name : List ℕ) → Request
  mark_safe : (name : List ℕ) → Request
  ask : (question : Question) (name : List ℕ) → Request
  weigh : (weighing : Weighing) (left right : List ℕ) → Request
  find : (search : Search) → Request

-- A request, and the name under which what it finds is to be kept
pub record Command : Type 0 where
  pub request : Request
  pub into : Option (List ℕ)

-- a request with no name for what it finds, and with one
abbrev pub asking : Request → Command
asking request = record { request = request; into = None }

abbrev pub asking_into : Request → List ℕ → Command
asking_into request into = record { request = request; into = Some into }

-- the requests that heed the name under which what they find, or mark, is to be kept
abbrev pub heeds_into : Request → Bool
heeds_into (set name value) = false
heeds_into (extend source) = false
heeds_into (remove name) = false
heeds_into (mark_safe name) = true
heeds_into (ask question name) = false
heeds_into (weigh weighing left right) = false
heeds_into (find search) = true
