-- What a filter takes of its named arguments, which stand in a map.
use Rattle.std.specs.Prelude.{List, ℕ, Option, Some, None, Result, Ok, unwrap_or}
use Rattle.std.specs.Option.{ok_or}
use Rattle.tera.specs.Arithmetic.{and_then, each_ok}
use Rattle.tera.specs.Form.{Form}
use Rattle.tera.specs.Lookup.{attr}
use Rattle.tera.specs.Refusal.{Refusal, missing_argument}

module _ {X : Type 0} (taken : Form → Result X Refusal) where
  -- what an argument is taken as, where it has to be there
  abbrev pub where_needed : List ℕ → Option Form → Result X Refusal
  where_needed name given = and_then (ok_or given (missing_argument name)) taken

  abbrev pub needed : Form → List ℕ → Result X Refusal
  needed arguments name = where_needed name (attr arguments name)

  -- what an argument is taken as, where it may be left out
  abbrev pub where_there : Option Form → Result (Option X) Refusal
  where_there None = Ok None
  where_there (Some value) = each_ok (λ x. Some x) (taken value)

  abbrev pub optional : Form → List ℕ → Result (Option X) Refusal
  optional arguments name = where_there (attr arguments name)

  abbrev pub or_else : Form → List ℕ → X → Result X Refusal
  or_else arguments name otherwise =
      each_ok (λ x. unwrap_or x otherwise) (optional arguments name)
