-- What is put where text goes.
use Rattle.std.specs.Prelude.{◌≡◌, ℕ, List, [], Result, MatchResult}
use Rattle.std.specs.List.{FoldsTo, flat_map}
use Rattle.std.specs.declared.fmt.Formatter.{Formatter}
use Rattle.std.specs.Fmt.{HasWrittenStyled, IsFlush}

-- it was done with some bytes of this property
abbrev pub OfSome : {S : Type 0} → (S → List ℕ → S → Type 0) → (List ℕ → Type 0) → S → S → Type 0
OfSome does P old new = (bytes : List ℕ) × P bytes × does old bytes new

-- some bytes with a property were taken; or the call failed on some bytes with that property
abbrev pub Puts : {S E : Type 0} → (S → List ℕ → S → Type 0) → (S → List ℕ → S → Type 0)
    → Result (Unit {0}) E → (List ℕ → Type 0) → S → S → Type 0
Puts takes fails result P old new =
    MatchResult result (λ _. OfSome takes P old new) (λ _. OfSome fails P old new)

-- these bytes were taken, or the call failed on them
abbrev pub PutsThese : {S E : Type 0} → (S → List ℕ → S → Type 0) → (S → List ℕ → S → Type 0)
    → Result (Unit {0}) E → List ℕ → S → S → Type 0
PutsThese takes fails result bytes old new =
    MatchResult result (λ _. takes old bytes new) (λ _. fails old bytes new)

-- one use of a sink: a text is put, or what is kept back is passed on
pub data Use : Type 0 where
  put : List ℕ → Use
  flush : Use

-- the bytes that it puts
abbrev pub bytes_put : Use → List ℕ
bytes_put (put bytes) = bytes
bytes_put flush = []

-- it went well, and led from old to new
abbrev pub Uses : {S : Type 0} → (S → List ℕ → S → Type 0) → (S → S → Type 0)
    → S → Use → S → Type 0
Uses takes flushes old (put bytes) new = takes old bytes new
Uses takes flushes old flush new = flushes old new

-- texts that were put in turn, maybe with flushes between them, led from old to new, and joined
-- they are the bytes
pub record Sends {S : Type 0} (takes : S → List ℕ → S → Type 0) (flushes : S → S → Type 0)
    (old : S) (bytes : List ℕ) (new : S) : Type 0 where
  pub uses : List Use
  pub turns : FoldsTo (Uses takes flushes) old uses new
  pub whole : flat_map bytes_put uses ≡ bytes

-- the bytes were sent, and what was kept back of them was passed on
abbrev pub Delivers : {S : Type 0} → (S → List ℕ → S → Type 0) → (S → S → Type 0)
    → S → List ℕ → S → Type 0
Delivers {S} takes flushes old bytes new =
    (sent : S) × Sends takes flushes old bytes sent × flushes sent new

-- a formatter took the bytes, and has the options that it had
abbrev pub FormatterTakes : {W : Type 0} → (W → List ℕ → W → Type 0)
    → Formatter W → List ℕ → Formatter W → Type 0
FormatterTakes took old bytes new = IsFlush old → HasWrittenStyled took old bytes new
