-- What a room of the caller gets.
use Rattle.std.specs.Prelude.{◌≡◌, ℕ, ◌≤◌, ◌<◌, List, ◌++◌, length, drop}
use Rattle.tera_c.specs.Status.{done, small}

-- the text stands at the front of the room, and what is behind it is as it was
abbrev pub Holds : List ℕ → List ℕ → List ℕ → Type 0
Holds text old new = new ≡ text ++ drop (length text) old

-- The text is copied where it fits; else nothing is written. Its length is told either way.
pub record IsDelivered (text old new : List ℕ) (len status : ℕ) : Type 0 where
  pub len_is : len ≡ length text
  pub fits : length text ≤ length old → (status ≡ done) × Holds text old new
  pub small : length old < length text → (status ≡ small) × (new ≡ old)
