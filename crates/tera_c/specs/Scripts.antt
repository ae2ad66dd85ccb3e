-- What a whole script answers.
use Rattle.std.specs.Prelude.{◌≡◌, ℕ, ◌<◌, ◌≤◌, ◌⊎◌, false, List, Some, Result, length}
use Rattle.std.specs.Io.KnownBytes.{ReadConsumes}
use Rattle.tera_replies.specs.Replay.{AllAnswered, MemoryFailed}
use Rattle.tera_replies.specs.Source.{bytes_left, fails_at_end}
use Rattle.tera_replies.specs.Streams.{reads_dropped}
use Rattle.tera_replies.specs.declared.source.InputPieces.{InputPieces}
use Rattle.tera_replies.specs.declared.source.ReadError.{ReadError}
use Rattle.tera_c.specs.Rooms.{Holds}
use Rattle.tera_c.specs.Status.{small, no_memory}

-- a read of a script in memory gives some of its next bytes, and none only at its end
abbrev pub GivesNext : InputPieces → List ℕ → Result ℕ ReadError → InputPieces → Type 0
GivesNext old piece answer new =
    ReadConsumes (Some (bytes_left old)) (Some (bytes_left new)) answer piece

-- A replay of the script comes to just these answers, this report and this status. It reads a
-- source of the script's bytes that then ends, so no read fails; and no write does.
pub record Comes (script answers report : List ℕ) (status : ℕ) : Type 0 where
  pub source : InputPieces
  pub bytes : bytes_left source ≡ script
  pub ends : fails_at_end source ≡ false
  pub came : AllAnswered script (Some false) (reads_dropped GivesNext source) answers report status
      ⊎ MemoryFailed script (reads_dropped GivesNext source) answers report status

-- it came to these, and they stand in the rooms with that status; or one room is too small for its
-- own, and nothing is written. The lengths are told either way
pub record IsReplayed (script out out_new err err_new : List ℕ) (out_len err_len status : ℕ)
    : Type 0 where
  pub answers : List ℕ
  pub report : List ℕ
  pub ended : ℕ
  pub comes : Comes script answers report ended
  pub out_is : out_len ≡ length answers
  pub err_is : err_len ≡ length report
  pub fits : length answers ≤ length out → length report ≤ length err
      → (status ≡ ended) × Holds answers out out_new × Holds report err err_new
  pub small : (length out < length answers) ⊎ (length err < length report)
      → (status ≡ small) × (out_new ≡ out) × (err_new ≡ err)

-- the status says that no memory was found: nothing is written, and the lengths are 0
abbrev pub FoundNoMemory : List ℕ → List ℕ → List ℕ → List ℕ → ℕ → ℕ → ℕ → Type 0
FoundNoMemory out out_new err err_new out_len err_len status =
    (status ≡ no_memory) × (out_len ≡ 0) × (err_len ≡ 0) × (out_new ≡ out) × (err_new ≡ err)
