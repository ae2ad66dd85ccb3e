-- What is made, where memory may be wanting: all that was asked for, or some of it left out.
use Rattle.std.specs.Prelude.{◌≡◌, ◌⊎◌, ◌++◌, ℕ, ℤ, List, [], ◌∷◌, map}
use Rattle.tera_meaning.specs.Form.{Form}
use Rattle.tera_meaning.specs.Integer.{i64}
use Rattle.tera_meaning.specs.KeyMeaning.{KeyForm, text_key, borrowed}
use Rattle.tera_meaning.specs.Pairs.{key_form_order, put}
use Rattle.tera_meaning.specs.Tree.{array, object, items, members}
use Rattle.tera_values.specs.View.{integer}

-- the items with each of the others put behind, or left out
abbrev pub Appended : List Form → List Form → List Form → Type 0
Appended held [] made = made ≡ held
Appended held (x ∷ xs) made = Appended (held ++ x ∷ []) xs made ⊎ Appended held xs made

-- the pairs with each of the others put in, or left out
abbrev pub Inserted : List (KeyForm × Form) → List (KeyForm × Form) → List (KeyForm × Form) → Type 0
Inserted held [] made = made ≡ held
Inserted held (p ∷ ps) made =
    Inserted (put key_form_order held p.0 p.1) ps made ⊎ Inserted held ps made

-- an array of these items, or of some of them
abbrev pub IsArrayOf : List Form → Form → Type 0
IsArrayOf xs value = (made : List Form) × Appended [] xs made × (value ≡ array (items made))

-- a map of these pairs, or of some of them
abbrev pub IsMapOf : List (KeyForm × Form) → Form → Type 0
IsMapOf ps value = (made : List (KeyForm × Form)) × Inserted [] ps made
    × (value ≡ object (members made))

-- these numbers as values
abbrev pub numbered : List ℤ → List Form
numbered zs = map (λ z. integer i64 z) zs

-- the pair of a number at a text
abbrev pub at_text : List ℕ → ℤ → KeyForm × Form
at_text key z = (text_key (borrowed key), integer i64 z)
