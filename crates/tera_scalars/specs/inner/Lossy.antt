-- What stands for bytes that are no character.
use Rattle.std.specs.Prelude.{ℕ, List, [], ◌∷◌}
use Rattle.std.specs.Str.Lossy.{replacement_bytes}

-- U+FFFD for a piece of bytes that is no character, and nothing where no byte is in it
abbrev pub stand_in : List ℕ → List ℕ
stand_in [] = []
stand_in (b ∷ bs) = replacement_bytes
