-- What is told beside the report of a bad line.
use Rattle.std.specs.Prelude.{◌≡◌, ℕ, Bool, true, false, List, [], ◌++◌, Option, Some, None}
use Rattle.tera_replies.specs.Script.{ended}
use Rattle.tera_script.specs.Expected.{IsExpectedOf, told_expected}
use Rattle.tera_script.specs.declared.stop.Expected.{Expected}

-- a line that says what was expected, or nothing
abbrev pub why_text : Option Expected → List ℕ
why_text (Some found) = ended (told_expected found)
why_text None = []

-- what is told beside the report: what was expected of the line, where that is asked for
abbrev pub IsWhy : Bool → List ℕ → List ℕ → Type 0
IsWhy true line text = (found : Option Expected) × IsExpectedOf line found × (text ≡ why_text found)
IsWhy false line text = text ≡ []

-- the report and that were told
abbrev pub TellsWhy : {E : Type 0} → (E → List ℕ → E → Type 0) → Bool → List ℕ → List ℕ → E → E
    → Type 0
TellsWhy ErrGets why line report old new =
    (text : List ℕ) × IsWhy why line text × ErrGets old (report ++ text) new
