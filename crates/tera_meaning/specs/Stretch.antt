-- A slice by a step of 1 in closed form: the items behind some of them, up to others.
use Rattle.std.specs.Prelude.{◌-◌, ℕ, suc, ℤ, pos, negsuc, List, drop, take, length, Option, None}
use Rattle.std.specs.Prelude.{Some}

-- the items before a bound. One below 0 counts from the end
abbrev pub up_to_bound : {X : Type 0} → Option ℤ → List X → List X
up_to_bound None xs = xs
up_to_bound (Some (pos n)) xs = take n xs
up_to_bound (Some (negsuc n)) xs = take (length xs - suc n) xs

-- the items from a bound on, which counts among so many
abbrev pub from_bound : {X : Type 0} → ℕ → Option ℤ → List X → List X
from_bound count None xs = xs
from_bound count (Some (pos n)) xs = drop n xs
from_bound count (Some (negsuc n)) xs = drop (count - suc n) xs

-- the items from one bound to another. Each counts among all the items
abbrev pub stretch : {X : Type 0} → List X → Option ℤ → Option ℤ → List X
stretch xs start end = from_bound (length xs) start (up_to_bound end xs)
