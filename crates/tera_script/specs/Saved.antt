-- A context as a script that makes it.
use Rattle.std.specs.Prelude.{◌≡◌, ◌≢◌, ◌≤◌, ◌<◌, ◌⊎◌, ℕ, Bool, Result, Ok, Err}
use Rattle.std.specs.Prelude.{List, ◌∷◌, ◌++◌, flat_map, map, codes}
use Rattle.std.specs.FinMap.{empty, entries, from_entries}
use Rattle.std.specs.List.{AllByRecursion}
use Rattle.std.specs.declared.alloc.AllocError.{AllocError}
use Rattle.tera_meaning.specs.Form.{Form}
use Rattle.tera_meaning.specs.Request.{Command, set, asking}
use Rattle.tera_meaning.specs.State.{State}
use Rattle.tera_meaning.specs.Tree.{depth}
use Rattle.tera_report.specs.Errors.{IsOutOfMemory, Raises}
use Rattle.tera_report.specs.Refusal.{message}
use Rattle.tera_report.specs.declared.errors.Error.{Error}
use Rattle.tera_script.specs.Line.{levels}
use Rattle.tera_script.specs.Word.{IsName}
use Rattle.tera_script.specs.Written.{literal_of, owned_form}
use Rattle.tera_script.specs.declared.script.ScriptError.{ScriptError}
use Rattle.tera_script.specs.declared.script.ScriptError.TheVariants.{BadName, TooDeep, OutOfMemory}
use Rattle.tera_script.specs.declared.script.ScriptError.TheVariants.{Refused}

-- the line that sets a name to a value
abbrev pub set_line : Bool → List ℕ × Form → List ℕ
set_line ascii entry = codes "set " ++ (entry.0 ++ (codes " " ++ literal_of ascii entry.1))

-- the lines of the entries in their order, each with its line feed
abbrev pub script_of : Bool → List (List ℕ × Form) → List ℕ
script_of ascii entries = flat_map (λ entry. set_line ascii entry ++ codes "\n") entries

-- the commands that they say
abbrev pub commands_of : List (List ℕ × Form) → List Command
commands_of entries = map (λ entry. asking (set entry.0 (owned_form entry.1))) entries

-- there is such a line: the name is one of the language, and the value does not nest too deep
abbrev pub HasLine : List ℕ × Form → Type 0
HasLine entry = IsName entry.0 × (depth entry.1 ≤ levels)

abbrev pub HaveLines : List (List ℕ × Form) → Type 0
HaveLines entries = AllByRecursion HasLine entries

-- the entry is one of these, and all before it have lines
abbrev pub ComesNext : List (List ℕ × Form) → List ℕ × Form → Type 0
ComesNext entries entry =
    (before after : List (List ℕ × Form)) × HaveLines before × (entries ≡ before ++ entry ∷ after)

-- the first entry without a line has this name, which is none of the language
abbrev pub HasBadName : List (List ℕ × Form) → List ℕ → Type 0
HasBadName entries name = (value : Form) × ComesNext entries (name, value) × (¬ IsName name)

-- the first entry without a line has this name, and its value nests too deep
abbrev pub HasDeepValue : List (List ℕ × Form) → List ℕ → Type 0
HasDeepValue entries name =
    (value : Form) × ComesNext entries (name, value) × IsName name × (levels < depth value)

-- the error tells the first entry without a line
abbrev pub TellsFirst : {F : Type 0} → List (List ℕ × Form) → ScriptError F → Type 0
TellsFirst entries (BadName name) = HasBadName entries name.now
TellsFirst entries (TooDeep name) = HasDeepValue entries name.now
TellsFirst entries OutOfMemory = ⊥
TellsFirst entries (Refused fault) = ⊥

-- the script was put; or an entry has no line, or no memory was found for the names, and nothing
-- was; or the sink refused a piece
abbrev pub WritesScript : {S F : Type 0} → (S → List ℕ → S → Type 0) → (S → List ℕ → S → Type 0)
    → State → List ℕ → S → Result (Unit {0}) (ScriptError F) → S → Type 0
WritesScript takes fails context script old (Ok done) new =
    HaveLines (entries context) × takes old script new
WritesScript takes fails context script old (Err (Refused fault)) new =
    HaveLines (entries context) × fails old script new
WritesScript takes fails context script old (Err OutOfMemory) new =
    (context ≢ empty) × (new ≡ old)
WritesScript takes fails context script old (Err error) new =
    TellsFirst (entries context) error × (new ≡ old)

-- what is said of a name that is none of the language, and of a value that nests too deep
abbrev pub bad_name : List ℕ → List ℕ
bad_name name = codes "No script can say the name " ++ name

abbrev pub deep_value : List ℕ → List ℕ
deep_value name =
    codes "Values nested deeper than 64 levels have no literal: the value of " ++ name

-- the error for a script that was not written into a text
abbrev pub IsRefusalOf : ScriptError AllocError → Error → Type 0
IsRefusalOf (BadName name) error = Raises (message (bad_name name.now)) error
IsRefusalOf (TooDeep name) error = Raises (message (deep_value name.now)) error
IsRefusalOf OutOfMemory error = IsOutOfMemory error
IsRefusalOf (Refused fault) error = IsOutOfMemory error

-- a text was to hold the script of these: want of memory, or what it says of the first entry
-- without a line
abbrev pub RefusesScript : List (List ℕ × Form) → Error → Type 0
RefusesScript entries error =
    IsOutOfMemory error
    ⊎ (((name : List ℕ) × HasBadName entries name × Raises (message (bad_name name)) error)
    ⊎ ((name : List ℕ) × HasDeepValue entries name × Raises (message (deep_value name)) error))

-- the state with each form's keys owning their texts, as those that are read do
abbrev pub owned_state : State → State
owned_state state = from_entries (map (λ entry. (entry.0, owned_form entry.1)) (entries state))
