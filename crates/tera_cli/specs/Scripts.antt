-- A script that is opened by its name.
use Rattle.std.specs.Prelude.{◌≡◌, ℕ, ◌⊎◌, List, Option, None, Some, codes}
use Rattle.tera_cli.specs.Faults.{cannot}
use Rattle.tera_replies.specs.Output.{TakesOrFails}
use Rattle.tera_replies.specs.Replay.{ReplaysGiven}
use Rattle.tera_replies.specs.Streams.{streams}
use Rattle.tera_replies.specs.declared.source.Source as Source
use Rattle.tera_report.specs.declared.sink.Sink as Sink

-- an open script was replayed from no names, as standard input is
abbrev pub ReplaysScript : {S W F E G : Type 0} → Source.Ghosts S → Sink.Ghosts W F
    → Sink.Ghosts E G → S → W × E → ℕ → W × E → Type 0
ReplaysScript {S} source w e script old status new =
    (last : S) × ReplaysGiven source script last (streams w old.0 new.0 e old.1 new.1) status

-- nothing was replayed, and the status is 1
abbrev pub TellsUnread : {W E : Type 0} → (E → List ℕ → E → Type 0) → (E → List ℕ → E → Type 0)
    → List ℕ → W × E → ℕ → W × E → Type 0
TellsUnread told untold name old status new =
    (new.0 ≡ old.0) × TakesOrFails told untold old.1 (cannot (codes "read") name) new.1
    × (status ≡ 1)

-- the script that this name opened was replayed; or the name opened none, which is told
abbrev pub ReplaysNamed : {S W E : Type 0} → (List ℕ → Option S → Type 0)
    → (S → W × E → ℕ → W × E → Type 0) → (E → List ℕ → E → Type 0) → (E → List ℕ → E → Type 0)
    → List ℕ → W × E → ℕ → W × E → Type 0
ReplaysNamed {S} Opened Replays told untold name old status new =
    ((script : S) × Opened name (Some script) × Replays script old status new)
    ⊎ (Opened name None × TellsUnread told untold name old status new)
