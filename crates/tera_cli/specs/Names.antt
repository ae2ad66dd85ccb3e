-- The names of a conversation, as they are shown.
use Rattle.std.specs.Prelude.{◌≡◌, ◌⊎◌, ℕ, List, [], ◌∷◌, ◌++◌}
use Rattle.std.specs.FinMap.{keys}
use Rattle.tera_meaning.specs.State.{State}
use Rattle.tera_replies.specs.Script.{ended}
use Rattle.tera_report.specs.Quoted.{Quotes}
use Rattle.tera_script.specs.Word.{IsName}

-- the bytes stand for the name: it stands for itself where it is one of the language, and any other
-- text is quoted
abbrev pub WritesName : List ℕ → List ℕ → Type 0
WritesName name bytes = (IsName name × (bytes ≡ name)) ⊎ ((¬ IsName name) × Quotes name bytes)

-- the bytes stand for each of the names in turn, with a line feed behind it
abbrev pub IsListOf : List (List ℕ) → List ℕ → Type 0
IsListOf [] bytes = bytes ≡ []
IsListOf (name ∷ names) bytes =
    (first others : List ℕ) × WritesName name first × IsListOf names others
    × (bytes ≡ ended first ++ others)

-- OutGets says what became of the list of all names, in the order of their bytes
abbrev pub Lists : {W : Type 0} → (W → List ℕ → W → Type 0) → State → W → W → Type 0
Lists OutGets state out out_new =
    (text : List ℕ) × IsListOf (keys state) text × OutGets out text out_new
