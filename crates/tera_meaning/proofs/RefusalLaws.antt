-- What one step after another refuses and gives.
use Rattle.std.specs.Prelude.{◌≡◌, Result, Ok, IsOk}
use Rattle.std.proofs.Common.{rules}
use Rattle.tera_report.specs.Errors.{Refuses}
use Rattle.tera_report.specs.Refusal.{Refusal}
use Rattle.tera_report.specs.declared.errors.Error.{Error}
use Rattle.tera_meaning.specs.Arithmetic.{and_then}

module _ {X Y : Type 0} where
  -- what the first step refuses, the two of them refuse
  pub refuses_on : (r : Result X Refusal) (next : X → Result Y Refusal) (e : Error) → Refuses r e
      → Refuses (and_then r next) e
  refuses_on x0 next e is = search rules

  -- where the two of them give something, so did the first, and the next one gave it
  pub ok_before : (r : Result X Refusal) (next : X → Result Y Refusal) → IsOk (and_then r next)
      → IsOk r
  ok_before x0 next is = search rules

  pub given_by_both : (r : Result X Refusal) (next : X → Result Y Refusal) (y : Y)
      → and_then r next ≡ Ok y → (x : X) × (r ≡ Ok x) × (next x ≡ Ok y)
  given_by_both x0 next y is = search rules

pub ruleset laws = (refuses_on, ok_before, given_by_both)
