-- Which bytes spell words, names and places.
use Rattle.std.specs.Prelude.{◌≡◌, ◌⊎◌, ⊤, ◌||◌, ◌==◌, ◌&&◌, not, ℕ, Bool, true, false, IsTrue}
use Rattle.std.specs.Prelude.{List, [], ◌∷◌, ◌++◌, codes, Option, None, Some, if◌then◌else◌}
use Rattle.std.specs.Char.{is_ascii_alphabetic, is_ascii_alphanumeric}
use Rattle.std.specs.List.{list_all, list_any}
use Rattle.std.specs.Str.{bytes_eq}
use Rattle.tera_page.specs.Template.{Place}

-- a space, a tab, a line feed or a carriage return
abbrev pub is_blank : ℕ → Bool
is_blank b = b == 32 || (b == 9 || (b == 10 || b == 13))

abbrev pub AreBlanks : List ℕ → Type 0
AreBlanks bytes = IsTrue (list_all is_blank bytes)

-- there is nothing, or a blank is first
abbrev pub Ends : List ℕ → Type 0
Ends [] = ⊤
Ends (b ∷ bytes) = is_blank b ≡ true

-- behind blanks stands a word, which ends there, and then the rest
abbrev pub IsNext : List ℕ → List ℕ → List ℕ → Type 0
IsNext text word rest =
    (before : List ℕ) × AreBlanks before × Ends rest × (text ≡ before ++ (word ++ rest))

-- the text is these words, with blanks before, between and behind them
abbrev pub Words : List (List ℕ) → List ℕ → Type 0
Words [] text = AreBlanks text
Words (word ∷ words) text = (rest : List ℕ) × IsNext text word rest × Words words rest

-- ---- names and places

abbrev pub is_name_start : ℕ → Bool
is_name_start b = is_ascii_alphabetic b || b == 95

abbrev pub is_name_byte : ℕ → Bool
is_name_byte b = is_ascii_alphanumeric b || b == 95

-- the words that stand for something else than a value of the state
abbrev pub is_word_of_language : List ℕ → Bool
is_word_of_language word =
    list_any (bytes_eq word) (codes "and" ∷ codes "false" ∷ codes "in" ∷ codes "is" ∷ codes "loop"
    ∷ codes "none" ∷ codes "not" ∷ codes "or" ∷ codes "true" ∷ [])

-- letters, digits and `_`, no digit first
abbrev pub is_name : List ℕ → Bool
is_name [] = false
is_name (b ∷ bytes) =
    is_name_start b && (list_all is_name_byte bytes && not (is_word_of_language (b ∷ bytes)))

-- elements of letters, digits and `_`, none empty, with dots between them; whether one has begun
abbrev pub are_elements : Bool → List ℕ → Bool
are_elements begun [] = begun
are_elements begun (b ∷ bytes) =
    if b == 46 then begun && are_elements false bytes else is_name_byte b && are_elements true bytes

abbrev pub IsPath : Option (List ℕ) → Type 0
IsPath None = ⊤
IsPath (Some to) = IsTrue (are_elements false to)

-- the names that each turn of a loop brings
abbrev pub is_loop_name : List ℕ → Bool
is_loop_name word =
    list_any (bytes_eq word) (codes "loop.first" ∷ codes "loop.index" ∷ codes "loop.index0"
    ∷ codes "loop.last" ∷ [])

-- a name and maybe a path, or a name of a loop's turn without one
abbrev pub IsPlace : Place → Type 0
IsPlace at =
    (IsTrue (is_name at.name) × IsPath at.to) ⊎ (IsTrue (is_loop_name at.name) × (at.to ≡ None))

-- a path behind its dot, or none, and then a text
abbrev pub path_and : Option (List ℕ) → List ℕ → List ℕ
path_and None rest = rest
path_and (Some to) rest = codes "." ++ (to ++ rest)

-- a place as it is written
abbrev pub place_text : Place → List ℕ
place_text at = at.name ++ path_and at.to []
