-- The lines of a script, and what they say.
use Rattle.std.specs.Prelude.{◌≡◌, ℕ, ◌+◌, ◌⊎◌, ◌==◌, List, [], ◌∷◌, ◌++◌, All, Option, None}
use Rattle.std.specs.Prelude.{Some, if◌then◌else◌}
use Rattle.std.specs.List.{flat_map}
use Rattle.tera_meaning.specs.Request.{Command}
pub use Rattle.tera_report.specs.Parts.{line_feed, HasNoLineFeed}
use Rattle.tera_script.specs.Line.{Says, IsSkipped, IsBad}

abbrev pub carriage_return : ℕ
carriage_return = 13

-- a line with its line feed
abbrev pub ended : List ℕ → List ℕ
ended line = line ++ line_feed ∷ []

-- the bytes are these lines, each with its line feed, and then a part of a line, which may be empty
pub record Splits (bytes : List ℕ) (lines : List (List ℕ)) (part : List ℕ) : Type 0 where
  pub whole : bytes ≡ flat_map ended lines ++ part
  pub each : All HasNoLineFeed lines
  pub rest : HasNoLineFeed part

-- without the carriage return at its end, if it has one
abbrev pub without_return : List ℕ → List ℕ
without_return [] = []
without_return (byte ∷ []) = if byte == carriage_return then [] else byte ∷ []
without_return (byte ∷ next ∷ bytes) = byte ∷ without_return (next ∷ bytes)

-- what counts of the part after the last line feed: a line, unless it is empty
abbrev pub last_line : List ℕ → List (List ℕ)
last_line [] = []
last_line (byte ∷ bytes) = (byte ∷ bytes) ∷ []

-- a bad line, with its number
pub record BadLine : Type 0 where
  pub number : ℕ
  pub line : List ℕ

-- what the lines say, numbered from n on, up to the first bad line
abbrev pub Script : ℕ → List (List ℕ) → List Command → Option BadLine → Type 0
Script n [] commands bad = (commands ≡ []) × (bad ≡ None)
Script n (line ∷ lines) commands bad =
    (IsSkipped line × Script (n + 1) lines commands bad)
    ⊎ (((first : Command) × (later : List Command) × Says line first × (commands ≡ first ∷ later)
    × Script (n + 1) lines later bad)
    ⊎ (IsBad line × (commands ≡ []) × (bad ≡ Some (record { number = n; line = line }))))
