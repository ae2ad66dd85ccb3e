-- The end of a value.
use Rattle.std.specs.Prelude.{ℕ, zero, suc, negsuc, pos, None, Some, Result}
use Rattle.tera.specs.Form.{Form}
use Rattle.tera.specs.Refusal.{Refusal}
use Rattle.tera.specs.SliceRule.{IsSliced}

-- the slice of the last so many; of none that up to a bound of 0
abbrev pub IsEnd : Form → ℕ → Result Form Refusal → Type 0
IsEnd value zero outcome = IsSliced value None (Some (pos 0)) None outcome
IsEnd value (suc n) outcome = IsSliced value (Some (negsuc n)) None None outcome
