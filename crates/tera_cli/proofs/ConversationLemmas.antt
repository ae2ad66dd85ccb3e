-- What stands where a line was not answered.
use Rattle.std.proofs.Common.{◌≡◌, ◌≢◌, ℕ, List, refl}
use Rattle.tera_meaning.specs.State.{State}
use Rattle.tera_replies.specs.Stretch.{LineStops}
use Rattle.tera_replies.specs.declared.fault.Fault.{Fault}
use Rattle.tera_replies.specs.declared.fault.Fault.TheVariants.{BadLine, ReadFailed, WriteFailed, OutOfMemory}

-- no answer was put
pub none_answered : (fault : Fault) (n : ℕ) (old : State) (line : List ℕ) (new : State) (OutStays : Type 0) (OutBroke : List ℕ → Type 0)
    → fault ≢ WriteFailed → LineStops n old line new OutStays OutBroke fault → OutStays
none_answered (BadLine report) n old line new OutStays OutBroke other stops = stops.2
none_answered ReadFailed n old line new OutStays OutBroke other stops = absurd stops
none_answered WriteFailed n old line new OutStays OutBroke other stops = absurd (other refl)
none_answered OutOfMemory n old line new OutStays OutBroke other stops = stops
