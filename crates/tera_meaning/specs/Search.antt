-- What is found in a state.
use Rattle.std.specs.Prelude.{⊤, ℕ, ℤ, IsTrue, List, Option, Some, None, Result, Ok, Err}
use Rattle.std.specs.FinMap.{get as held_at}
use Rattle.tera_report.specs.Refusal.{Refusal, Operator}
use Rattle.tera_meaning.specs.Arithmetic.{calculated, negated}
use Rattle.tera_meaning.specs.Conversion.{IntegerType, read_as}
use Rattle.tera_meaning.specs.Form.{Form}
use Rattle.tera_meaning.specs.Lookup
use Rattle.tera_meaning.specs.Meaning.{meaning}
use Rattle.tera_meaning.specs.Path
use Rattle.tera_meaning.specs.Read.{iterable_in, truthy_in}
use Rattle.tera_meaning.specs.SliceRule.{reversed}
use Rattle.tera_meaning.specs.State.{State, form_at}
use Rattle.tera_meaning.specs.Slice.{sliced}

-- a value, or a part of one, or what is made of it
pub data Search : Type 0 where
  get : (name : List ℕ) → Search
  path : (name path : List ℕ) → Search
  attr : (name attr : List ℕ) → Search
  item : (name item : List ℕ) → Search
  slice : (name : List ℕ) (start end step : Option ℤ) → Search
  reverse : (name : List ℕ) → Search
  calculate : (operator : Operator) (left right : List ℕ) → Search
  negate : (name : List ℕ) → Search
  read : (type : IntegerType) (name : List ℕ) → Search

-- a refusal, or what is found, which may be nothing
abbrev pub Found : Type 0
Found = Result (Option Form) Refusal

-- a value that is there, or its refusal
abbrev pub one_found : Result Form Refusal → Found
one_found (Ok value) = Ok (Some value)
one_found (Err refusal) = Err refusal

abbrev pub found_at : State → Search → Found
found_at state (get name) = Ok (held_at state name)
found_at state (path name p) = Ok (Path.path (form_at state name) p)
found_at state (attr name t) = Ok (Lookup.attr (form_at state name) t)
found_at state (item name i) = one_found (Lookup.item (form_at state name) (form_at state i))
found_at state (slice name start end step) = one_found (sliced (form_at state name) start end step)
found_at state (reverse name) = one_found (reversed (form_at state name))
found_at state (calculate operator left right) =
    one_found (calculated operator (form_at state left) (form_at state right))
found_at state (negate name) = one_found (negated (form_at state name))
found_at state (read type name) = one_found (read_as type (form_at state name))

-- a copy takes memory: of a text, of bytes, of an array or of a map, where it is not empty
abbrev pub CopyTakes : Form → Type 0
CopyTakes value = IsTrue (iterable_in value) × IsTrue (truthy_in (meaning value))

-- what a search makes takes memory: a copy, a slice or a reversal as a copy of it does. A number
-- takes none
abbrev pub MadeTakes : Search → Form → Type 0
MadeTakes (get name) value = CopyTakes value
MadeTakes (path name p) value = CopyTakes value
MadeTakes (attr name t) value = CopyTakes value
MadeTakes (item name i) value = CopyTakes value
MadeTakes (slice name start end step) value = CopyTakes value
MadeTakes (reverse name) value = CopyTakes value
MadeTakes (calculate operator left right) value = ⊥
MadeTakes (negate name) value = ⊥
MadeTakes (read type name) value = ⊥

-- what a search comes to takes memory: the text of a refusal does, and what is made
abbrev pub FoundTakes : Search → Found → Type 0
FoundTakes search (Ok None) = ⊥
FoundTakes search (Ok (Some value)) = MadeTakes search value
FoundTakes search (Err refusal) = ⊤
