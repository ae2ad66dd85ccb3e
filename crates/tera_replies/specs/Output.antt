-- What an output got, and how it broke.
use Rattle.std.specs.Prelude.{◌≡◌, ℕ, ◌⊎◌, List, ◌++◌, Option, Result}
use Rattle.std.specs.declared.io.Error.{Error}
use Rattle.std.specs.Io.KnownBytes.{Appends}
use Rattle.tera_report.specs.Sink.{Delivers, Sends}
use Rattle.tera_report.specs.Writer.{Passes, Breaks, Flushes, FlushFails}
use Rattle.tera_report.specs.declared.sink.Sink.{Ghosts}

-- the text was put, or putting it failed
abbrev pub TakesOrFails : {S : Type 0} → (S → List ℕ → S → Type 0) → (S → List ℕ → S → Type 0)
    → S → List ℕ → S → Type 0
TakesOrFails takes fails old text new = takes old text new ⊎ fails old text new

-- a writer was given these bytes by its writes, with a flush behind them, and what it holds grew by
-- them
abbrev pub WriterGets : {W : Type 0} → (W → Option (List ℕ))
    → (W → List ℕ → Result ℕ Error → W → Type 0) → (W → Result (Unit {0}) Error → W → Type 0)
    → W → List ℕ → W → Type 0
WriterGets contents wrote flushed old bytes new =
    Appends (contents old) (contents new) bytes
    × Delivers (Passes wrote) (Flushes flushed) old bytes new

-- a sink was to take just these bytes: a put of the last of them failed, or a flush behind them
pub record BrokeOn {S : Type 0} (takes fails : S → List ℕ → S → Type 0)
    (flushes flush_fails : S → S → Type 0) (old : S) (bytes : List ℕ) (new : S) : Type 0 where
  pub front : List ℕ
  pub sent : S
  pub sends : Sends takes flushes old front sent
  pub fault : ((rest : List ℕ) × (front ++ rest ≡ bytes) × fails sent rest new)
      ⊎ ((front ≡ bytes) × flush_fails sent new)

-- the sink went from old to new by this text, which was sent; and by this, on which it broke
abbrev pub Sent : {S F : Type 0} → Ghosts S F → S → S → List ℕ → Type 0
Sent sink old new text = Sends sink.takes sink.flushes old text new

abbrev pub Broke : {S F : Type 0} → Ghosts S F → S → S → List ℕ → Type 0
Broke sink old new text = BrokeOn sink.takes sink.fails sink.flushes sink.flush_fails old text new

-- a writer was to be given just these bytes, and a write of it was a fault, or a flush of it failed
abbrev pub WriterBroke : {W : Type 0} → (W → List ℕ → Result ℕ Error → W → Type 0)
    → (W → Result (Unit {0}) Error → W → Type 0) → W → List ℕ → W → Type 0
WriterBroke wrote flushed old bytes new =
    BrokeOn (Passes wrote) (Breaks wrote) (Flushes flushed) (FlushFails flushed) old bytes new

-- a writer was given these bytes by its writes, and what it holds grew by them; or one of these
-- writes was a fault
abbrev pub WriterTakesOrFails : {W : Type 0} → (W → Option (List ℕ))
    → (W → List ℕ → Result ℕ Error → W → Type 0) → W → List ℕ → W → Type 0
WriterTakesOrFails contents wrote old text new =
    (Appends (contents old) (contents new) text × Passes wrote old text new)
    ⊎ Breaks wrote old text new
