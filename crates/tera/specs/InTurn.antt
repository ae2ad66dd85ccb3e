-- Texts that are shown one after another.
use Rattle.std.specs.Prelude.{◌≡◌, ◌++◌, ℕ, List, [], ◌∷◌}

-- the text is what each part shows, one after another
abbrev pub ShownInTurn : {X : Type 0} → (X → List ℕ → Type 0) → List X → List ℕ → Type 0
ShownInTurn shows [] text = text ≡ []
ShownInTurn shows (x ∷ xs) text =
    (first rest : List ℕ) × shows x first × ShownInTurn shows xs rest × (text ≡ first ++ rest)
