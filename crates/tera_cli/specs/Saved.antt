-- The names of a conversation and their values, saved as a script.
use Rattle.std.specs.Prelude.{◌≡◌, ◌⊎◌, ℕ, Bool, true, false, List, ◌++◌, codes}
use Rattle.std.specs.FinMap.{entries}
use Rattle.std.specs.Str.{IsUtf8}
use Rattle.tera_cli.specs.Faults.{cannot, no_text}
use Rattle.tera_meaning.specs.Form.{Form}
use Rattle.tera_meaning.specs.State.{State}
use Rattle.tera_replies.specs.Output.{TakesOrFails}
use Rattle.tera_report.specs.Refusal.{Refusal, Tells, memory_refused, message}
use Rattle.tera_script.specs.Saved.{HaveLines, HasBadName, HasDeepValue, bad_name, deep_value}
use Rattle.tera_script.specs.Saved.{script_of}

-- what is told of a refusal
abbrev pub IsErrorLine : Refusal → List ℕ → Type 0
IsErrorLine refusal bytes =
    (text : List ℕ) × Tells refusal text × (bytes ≡ codes "error: " ++ (text ++ codes "\n"))

-- why nothing was written: no memory was found for the script; or of the entries in their order
-- the first that has no line is told
abbrev pub IsUnsaved : List (List ℕ × Form) → List ℕ → Type 0
IsUnsaved entries text =
    (text ≡ codes "error: Out of memory\n")
    ⊎ (((name : List ℕ) × HasBadName entries name
    × (text ≡ codes "error: " ++ (bad_name name ++ codes "\n")))
    ⊎ ((name : List ℕ) × HasDeepValue entries name
    × (text ≡ codes "error: " ++ (deep_value name ++ codes "\n"))))

-- the text was written to the file of that name, and nothing is told; or it was not, which is told
abbrev pub WritesOrTells : {F E : Type 0} → (F → List ℕ → List ℕ → Bool → F → Type 0)
    → (E → List ℕ → E → Type 0) → (E → List ℕ → E → Type 0) → List ℕ → List ℕ → F → E → F → E
    → Type 0
WritesOrTells wrote told untold name text files err files_new err_new =
    (wrote files name text true files_new × (err_new ≡ err))
    ⊎ (wrote files name text false files_new
    × TakesOrFails told untold err (cannot (codes "write") name) err_new)

-- the script of the state was written so, by one write; or no file was, and why is told
abbrev pub Saves : {F E : Type 0} → (F → List ℕ → List ℕ → Bool → F → Type 0)
    → (E → List ℕ → E → Type 0) → (E → List ℕ → E → Type 0) → State → List ℕ → F → E → F → E
    → Type 0
Saves wrote told untold state name files err files_new err_new =
    (HaveLines (entries state)
    × WritesOrTells wrote told untold name (script_of false (entries state)) files err files_new
    err_new)
    ⊎ ((files_new ≡ files) × ((text : List ℕ) × IsUnsaved (entries state) text
    × TakesOrFails told untold err text err_new))

-- the same where the name is UTF-8, and else that is told
abbrev pub SavesNamed : {F E : Type 0} → (F → List ℕ → List ℕ → Bool → F → Type 0)
    → (E → List ℕ → E → Type 0) → (E → List ℕ → E → Type 0) → State → List ℕ → F → E → F → E
    → Type 0
SavesNamed wrote told untold state name files err files_new err_new =
    (IsUtf8 name × Saves wrote told untold state name files err files_new err_new)
    ⊎ ((¬ IsUtf8 name) × (files_new ≡ files) × TakesOrFails told untold err no_text err_new)
