-- The names that a document gives.
use Rattle.std.specs.Prelude.{◌≡◌, ◌⊎◌, ℕ, List, Option, Some, None, codes}
use Rattle.std.specs.FinMap.{get, insert}
use Rattle.tera.specs.Errors.{IsOutOfMemory, Raises, Refuses}
use Rattle.tera.specs.Form.{Form}
use Rattle.tera.specs.KeyMeaning.{KeyForm, owned, text_key}
use Rattle.tera.specs.Pairs.{key_form_order, value_at}
use Rattle.tera.specs.Read.{members_in}
use Rattle.tera.specs.Refusal.{message}
use Rattle.tera.specs.State.{State}
use Rattle.tera.specs.types.Error.{Error}
use Rattle.tera_json.specs.Documents.{IsRead, read_refusal}

-- a value is kept under a name, if there is one
abbrev pub keep : State → Option (List ℕ) → Form → State
keep state None value = state
keep state (Some name) value = insert state name value

-- each name means what the pairs have at it, as at a key that is a text
abbrev pub NameMembers : List (KeyForm × Form) → State → Type 0
NameMembers ps names =
    (name : List ℕ) → get names name ≡ value_at key_form_order ps (text_key (owned name))

-- the text is an object of JSON, and these are the names of its members, each with its value
abbrev pub AreNames : List ℕ → State → Type 0
AreNames text names =
    (value : Form) × (ps : List (KeyForm × Form)) × IsRead text value
    × (members_in value ≡ Some ps) × NameMembers ps names

-- the error of a text that is no document of JSON, or one that is no object; or want of memory
abbrev pub RefusesNames : List ℕ → Error → Type 0
RefusesNames text e =
    IsOutOfMemory e ⊎ Refuses (read_refusal text) e
    ⊎ ((value : Form) × IsRead text value × (members_in value ≡ None)
    × Raises (message (codes "The document is no object")) e)
