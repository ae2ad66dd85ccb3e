-- What a watched writer remembers, and what a call of it does.
use Rattle.std.specs.Prelude.{◌≡◌, ◌||◌, ℕ, Bool, List, IsTrue, Option, Result, Ok, Err}
use Rattle.std.specs.Borrow.{GName}
use Rattle.std.specs.Io.KnownBytes.{Appends, Keeps}
use Rattle.std.specs.declared.io.Error.{Error}
use Rattle.tera_report.specs.Writer.{all_taken, has_fault, Passes, Breaks}
use Rattle.tera_report.specs.declared.watch.Watched.{Watched}

-- the writer, as it stands
abbrev pub watched_writer : {W : Type 0} → Watched W → W
watched_writer w = w.writer.now

-- the bytes that the writer holds, where it tells them
abbrev pub held : {W : Type 0} → (W → Option (List ℕ)) → Watched W → Option (List ℕ)
held contents w = contents (watched_writer w)

-- the borrow of the writer
abbrev pub writer_loan : {W : Type 0} → Watched W → GName
writer_loan w = w.writer.ghost_name

-- new watches the same writer as old
abbrev pub SameWriter : {W : Type 0} → Watched W → Watched W → Type 0
SameWriter old new = writer_loan new ≡ writer_loan old

-- a write of the writer answered an error, or took no byte of some
abbrev pub has_failed : {W : Type 0} → Watched W → Bool
has_failed w = w.failed

abbrev pub HasFailed : {W : Type 0} → Watched W → Type 0
HasFailed w = IsTrue (has_failed w)

-- a watched writer took the bytes: it passed on just these by its writes, what it holds grew by
-- them, and it remembers a failure exactly where it did so before or one of these writes was one
pub record WatchedTakes {W : Type 0} (contents : W → Option (List ℕ))
    (wrote : W → List ℕ → Result ℕ Error → W → Type 0) (old : Watched W) (bytes : List ℕ)
    (new : Watched W) : Type 0 where
  pub same : SameWriter old new
  pub grows : Appends (held contents old) (held contents new) bytes
  pub passed : Passes wrote (watched_writer old) bytes (watched_writer new)
  pub told : has_failed new ≡ (has_failed old || has_fault passed.attempts)

-- a watched writer failed on the bytes: a write from old to new answered an error or took no byte
-- of some, and a beginning of the bytes was passed on
pub record WatchedFails {W : Type 0} (contents : W → Option (List ℕ))
    (wrote : W → List ℕ → Result ℕ Error → W → Type 0) (old : Watched W) (bytes : List ℕ)
    (new : Watched W) : Type 0 where
  pub same : SameWriter old new
  pub told : HasFailed new
  pub broke : Breaks wrote (watched_writer old) bytes (watched_writer new)
  pub grows : Appends (held contents old) (held contents new) (all_taken broke.attempts)

-- a watched writer was flushed: by one flush of its writer, with this answer; what it holds and
-- whether a write failed is as it was
pub record WatchedFlush {W : Type 0} (contents : W → Option (List ℕ))
    (flushed : W → Result (Unit {0}) Error → W → Type 0) (old : Watched W)
    (answer : Result (Unit {0}) Error) (new : Watched W) : Type 0 where
  pub same : SameWriter old new
  pub keeps : Keeps (held contents old) (held contents new)
  pub kept : has_failed new ≡ has_failed old
  pub passed : flushed (watched_writer old) answer (watched_writer new)

abbrev pub WatchedFlushes : {W : Type 0} → (W → Option (List ℕ))
    → (W → Result (Unit {0}) Error → W → Type 0) → Watched W → Watched W → Type 0
WatchedFlushes contents flushed old new = WatchedFlush contents flushed old (Ok tt) new

abbrev pub WatchedFlushFails : {W : Type 0} → (W → Option (List ℕ))
    → (W → Result (Unit {0}) Error → W → Type 0) → Watched W → Watched W → Type 0
WatchedFlushFails contents flushed old new =
    (fault : Error) × WatchedFlush contents flushed old (Err fault) new
