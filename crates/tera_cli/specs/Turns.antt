-- What is done in turn.
use Rattle.std.specs.Prelude.{◌≡◌, ◌≢◌, ℕ, ◌⊎◌, List, [], ◌∷◌}

-- each of some items in turn, up to the first whose status is not 0, which is the status of all
abbrev pub UpToAFault : {A X : Type 0} → (A → X → ℕ → X → Type 0) → List A → X → ℕ → X → Type 0
UpToAFault Does [] old status new = (status ≡ 0) × (new ≡ old)
UpToAFault {A} {X} Does (item ∷ items) old status new =
    ((status ≢ 0) × Does item old status new)
    ⊎ ((between : X) × Does item old 0 between × UpToAFault Does items between status new)
