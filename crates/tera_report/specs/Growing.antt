-- A text that grows, and what a call that puts bytes there does.
use Rattle.std.specs.Prelude.{◌≡◌, ℕ, ◌+◌, ◌≤◌, ◌<◌, List, ◌++◌, length, string_bytes, string_len}
use Rattle.std.specs.Prelude.{string_capacity}
use Rattle.tera_report.specs.declared.growing.Growing.{Growing}

-- the bytes that it holds
abbrev pub grown_bytes : Growing → List ℕ
grown_bytes g = string_bytes g.text

-- how many bytes it holds, and how many it has memory for
abbrev pub grown_len : Growing → ℕ
grown_len g = string_len g.text

abbrev pub grown_capacity : Growing → ℕ
grown_capacity g = string_capacity g.text

-- the text grew by the bytes, and gave back no memory
pub record GrowingTakes (old : Growing) (bytes : List ℕ) (new : Growing) : Type 0 where
  pub grows : grown_bytes new ≡ grown_bytes old ++ bytes
  pub counted : grown_len new ≡ grown_len old + length bytes
  pub capacity : grown_capacity old ≤ grown_capacity new

-- more memory was wanted for the bytes than the text had, and it was refused; a beginning of the
-- bytes was taken, and no memory was given back
pub record GrowingFails (old : Growing) (bytes : List ℕ) (new : Growing) : Type 0 where
  pub wanted : grown_capacity old < grown_len old + length bytes
  pub taken : List ℕ
  pub rest : List ℕ
  pub part : taken ++ rest ≡ bytes
  pub grows : grown_bytes new ≡ grown_bytes old ++ taken
  pub capacity : grown_capacity old ≤ grown_capacity new
