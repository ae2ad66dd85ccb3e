-- What becomes of a page, or is told in its place.
use Rattle.std.specs.Prelude.{◌≡◌, ◌⊎◌, ℕ, List, Bool, true, false, codes}
use Rattle.tera_render.specs.Faults.{IsTold, status_of}
use Rattle.tera_render.specs.declared.fault.Fault.{Fault}

-- the text was put, or putting it failed
abbrev pub TakesOrFails : {S : Type 0} → (S → List ℕ → S → Type 0) → (S → List ℕ → S → Type 0)
    → S → List ℕ → S → Type 0
TakesOrFails takes fails old text new = takes old text new ⊎ fails old text new

-- the text was put and passed on; or putting it failed, or passing it on
abbrev pub IsSent : {W : Type 0} → (W → List ℕ → W → Type 0) → (W → List ℕ → W → Type 0)
    → (W → W → Type 0) → (W → W → Type 0) → List ℕ → W → Bool → W → Type 0
IsSent {W} takes fails flushes flush_fails text old true new =
    (put : W) × takes old text put × flushes put new
IsSent {W} takes fails flushes flush_fails text old false new =
    fails old text new ⊎ ((put : W) × takes old text put × flush_fails put new)

-- the page was sent, and nothing is told; or that failed, which is told
abbrev pub SendsPage : {W E : Type 0} → (W → List ℕ → W → Type 0) → (W → List ℕ → W → Type 0)
    → (W → W → Type 0) → (W → W → Type 0) → (E → List ℕ → E → Type 0)
    → (E → List ℕ → E → Type 0) → List ℕ → W × E → ℕ → W × E → Type 0
SendsPage takes fails flushes flush_fails told untold page old status new =
    ((status ≡ 0) × IsSent takes fails flushes flush_fails page old.0 true new.0
    × (new.1 ≡ old.1))
    ⊎ ((status ≡ 1) × IsSent takes fails flushes flush_fails page old.0 false new.0
    × TakesOrFails told untold old.1 (codes "error: writing failed\n") new.1)

-- the fault is told, and the status is that of it
abbrev pub TellsFault : {E : Type 0} → (E → List ℕ → E → Type 0) → (E → List ℕ → E → Type 0)
    → Fault → E → ℕ → E → Type 0
TellsFault told untold fault old status new =
    (status ≡ status_of fault)
    × (text : List ℕ) × IsTold fault text × TakesOrFails told untold old text new

-- there is a page, which is sent; or none, nothing is sent, and the fault is told
abbrev pub Renders : {W E : Type 0} → (List ℕ → Type 0) → (Fault → Type 0)
    → (W → List ℕ → W → Type 0) → (W → List ℕ → W → Type 0) → (W → W → Type 0)
    → (W → W → Type 0) → (E → List ℕ → E → Type 0) → (E → List ℕ → E → Type 0)
    → W × E → ℕ → W × E → Type 0
Renders IsPage IsFault takes fails flushes flush_fails told untold old status new =
    ((page : List ℕ) × IsPage page
    × SendsPage takes fails flushes flush_fails told untold page old status new)
    ⊎ ((fault : Fault) × IsFault fault × (new.0 ≡ old.0)
    × TellsFault told untold fault old.1 status new.1)
