-- The bytes and the characters at either end of a text.
use Rattle.std.specs.Prelude.{ℕ, ◌-◌, Bool, true, false, List, take, drop, length}
use Rattle.std.specs.Str.{chars}
use Rattle.tera_scalars.specs.Positions.{turned}

-- the bytes at an end, so many or all, and the others
abbrev pub near : Bool → ℕ → List ℕ → List ℕ
near false n bs = take n bs
near true n bs = drop (length bs - n) bs

abbrev pub far : Bool → ℕ → List ℕ → List ℕ
far false n bs = drop n bs
far true n bs = take (length bs - n) bs

-- the characters of a text from an end on
abbrev pub chars_from : Bool → List ℕ → List ℕ
chars_from backwards bs = turned backwards (chars bs)
