-- A text that is put escaped into a room.
use Rattle.std.specs.Prelude.{◌≡◌, ℕ, ◌≤◌, List, ◌++◌, length, take}
use Rattle.tera_report.specs.Escaping.{escaped}

-- what is filled of the room is the escaped text as far as `at`
pub record IsEscapedTo (text : List ℕ) (at : ℕ) (room : List ℕ) (filled : ℕ) : Type 0 where
  pub read : at ≤ length text
  pub within : filled ≤ length room
  pub front : take filled room ≡ escaped (take at text)

-- the bytes stand behind what was filled, and the room is filled up to their end
pub record IsPut (bytes old : List ℕ) (filled : ℕ) (new : List ℕ) (end : ℕ) : Type 0 where
  pub size : length new ≡ length old
  pub within : end ≤ length new
  pub front : take end new ≡ take filled old ++ bytes
