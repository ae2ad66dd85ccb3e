-- Blanks and names.
use Rattle.std.specs.Prelude.{◌<◌, ℕ, Bool, IsTrue, ◌||◌, ◌==◌, List, [], ◌∷◌, length}
use Rattle.std.specs.Char.{is_ascii_alphabetic, is_ascii_alphanumeric}
use Rattle.std.specs.List.{list_all}

-- a space or a tab
abbrev pub is_blank : ℕ → Bool
is_blank b = (b == 32) || (b == 9)

abbrev pub AreBlanks : List ℕ → Type 0
AreBlanks bytes = IsTrue (list_all is_blank bytes)

-- one or more blanks
abbrev pub IsGap : List ℕ → Type 0
IsGap bytes = (0 < length bytes) × AreBlanks bytes

-- an ASCII letter or _; these and the digits
abbrev pub is_name_start : ℕ → Bool
is_name_start b = is_ascii_alphabetic b || (b == 95)

abbrev pub is_name_byte : ℕ → Bool
is_name_byte b = is_ascii_alphanumeric b || (b == 95)

abbrev pub IsName : List ℕ → Type 0
IsName [] = ⊥
IsName (b ∷ bytes) = IsTrue (is_name_start b) × IsTrue (list_all is_name_byte bytes)
