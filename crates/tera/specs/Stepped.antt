-- Steps that may refuse, one after another.
use Rattle.std.specs.Prelude.{List, [], ◌∷◌, Result, Ok}
use Rattle.tera_meaning.specs.Arithmetic.{and_then}
use Rattle.tera_report.specs.Refusal.{Refusal}

-- what the steps of these leave, or the first refusal
abbrev pub stepped : {S X : Type 0} → (S → X → Result S Refusal) → S → List X → Result S Refusal
stepped step state [] = Ok state
stepped step state (x ∷ xs) = and_then (step state x) (λ next. stepped step next xs)
