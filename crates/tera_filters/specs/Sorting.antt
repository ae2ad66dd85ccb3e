-- Lists in the order of a test, which says whether one comes before another.
use Rattle.std.specs.Prelude.{Bool, if◌then◌else◌, List, [], ◌∷◌}

module _ {X : Type 0} (before : X → X → Bool) where
  -- one in its place among others in order: in front of the first that does not come before it
  abbrev pub placed : X → List X → List X
  placed x [] = x ∷ []
  placed x (y ∷ ys) = if before y x then y ∷ placed x ys else x ∷ y ∷ ys

  -- all in order, those that tie as they stood
  abbrev pub in_order : List X → List X
  in_order [] = []
  in_order (x ∷ xs) = placed x (in_order xs)
