-- Items in either direction.
use Rattle.std.specs.Prelude.{Bool, true, false, List, reverse}

-- the items from the first on, or from the last back
abbrev pub turned : {X : Type 0} → Bool → List X → List X
turned false xs = xs
turned true xs = reverse xs
