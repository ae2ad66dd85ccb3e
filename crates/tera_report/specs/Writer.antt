-- Writes of a writer in turn: what each was given, and what it answered.
use Rattle.std.specs.Prelude.{◌≡◌, ◌≢◌, ℕ, ◌^◌, ◌-◌, ◌<◌, Bool, true, false, ◌&&◌, ◌||◌}
use Rattle.std.specs.Prelude.{◌==◌, not, IsTrue, List, [], ◌∷◌, ◌++◌, length, take}
use Rattle.std.specs.Prelude.{Result, Ok, Err, MatchResult}
use Rattle.std.specs.List.{AllByRecursion, FoldsTo, flat_map}
use Rattle.std.specs.IoError.{error_kind}
use Rattle.std.specs.declared.io.Error.{Error}
use Rattle.std.specs.declared.io.ErrorKind.TheVariants.{Interrupted}

-- a write of these bytes with this answer
pub record Attempt : Type 0 where
  pub given : List ℕ
  pub answer : Result ℕ Error

-- a write of these bytes with this answer: an error, or no byte taken of some
abbrev pub is_fault : {E : Type 0} → Result ℕ E → List ℕ → Bool
is_fault (Ok taken) bytes = taken == 0 && not (length bytes == 0)
is_fault (Err e) bytes = true

-- the bytes that a write with this answer took
abbrev pub bytes_taken : {E : Type 0} → Result ℕ E → List ℕ → List ℕ
bytes_taken (Ok taken) bytes = take taken bytes
bytes_taken (Err e) bytes = []

-- the bytes that some writes took, joined
abbrev pub all_taken : List Attempt → List ℕ
all_taken attempts = flat_map (λ a. bytes_taken a.answer a.given) attempts

-- one of some writes answered an error, or took no byte of some
abbrev pub has_fault : List Attempt → Bool
has_fault [] = false
has_fault (a ∷ rest) = is_fault a.answer a.given || has_fault rest

-- more may be written after this write: it took a byte, or was interrupted
abbrev pub GoesOn : Attempt → Type 0
GoesOn a = MatchResult a.answer (λ taken. 0 < taken) (λ e. error_kind e ≡ Interrupted)

-- no more is written after this write: it took no byte of some, or answered an error and was not
-- interrupted
abbrev pub Stops : Attempt → Type 0
Stops a = MatchResult a.answer (λ taken. (taken ≡ 0) × (a.given ≢ []))
    (λ e. error_kind e ≢ Interrupted)

-- the writer went from old to new by these writes, in turn
abbrev pub Tries : {W : Type 0} → (W → List ℕ → Result ℕ Error → W → Type 0)
    → W → List Attempt → W → Type 0
Tries wrote old attempts new = FoldsTo (λ v a w. wrote v a.given a.answer w) old attempts new

-- the writer went from old to new by writes that took just these bytes; each of them took a byte or
-- was interrupted
pub record Passes {W : Type 0} (wrote : W → List ℕ → Result ℕ Error → W → Type 0) (old : W)
    (bytes : List ℕ) (new : W) : Type 0 where
  pub attempts : List Attempt
  pub calls : Tries wrote old attempts new
  pub whole : all_taken attempts ≡ bytes
  pub steady : AllByRecursion GoesOn attempts

-- the writer went from old to new by writes that took a beginning of these bytes and not all, and
-- one of them answered an error or took no byte of some. Each but the last took a byte or was
-- interrupted. After the last no more is written: because of what it answered, or because there are
-- 2^64 - 1 of them or more
pub record Breaks {W : Type 0} (wrote : W → List ℕ → Result ℕ Error → W → Type 0) (old : W)
    (bytes : List ℕ) (new : W) : Type 0 where
  pub attempts : List Attempt
  pub calls : Tries wrote old attempts new
  pub fault : IsTrue (has_fault attempts)
  pub rest : List ℕ
  pub part : all_taken attempts ++ rest ≡ bytes
  pub left : rest ≢ []
  pub before : List Attempt
  pub last : Attempt
  pub ended : attempts ≡ before ++ last ∷ []
  pub steady : AllByRecursion GoesOn before
  pub stops : length attempts < 2 ^ 64 - 1 → Stops last

-- a flush of the writer that went well, and one that failed, led from old to new
abbrev pub Flushes : {W : Type 0} → (W → Result (Unit {0}) Error → W → Type 0) → W → W → Type 0
Flushes flushed old new = flushed old (Ok tt) new

abbrev pub FlushFails : {W : Type 0} → (W → Result (Unit {0}) Error → W → Type 0) → W → W → Type 0
FlushFails flushed old new = (fault : Error) × flushed old (Err fault) new
