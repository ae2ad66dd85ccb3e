-- What the maps of these programs hold.
use Rattle.std.specs.Prelude.{ℕ, pos, Bool, true, false, List, map, Option, None, Some}
use Rattle.tera.specs.Form.{Form}
use Rattle.tera.specs.Integer.{u64}
use Rattle.tera.specs.Key.{integer_key}
use Rattle.tera.specs.KeyMeaning.{KeyForm}
use Rattle.tera.specs.Meaning.{meaning}
use Rattle.tera.specs.Read.{truthy_in}
use Rattle.tera.specs.Tree.{truth}

-- each of the numbers as a key, with `true`
abbrev pub flagged : List ℕ → List (KeyForm × Form)
flagged numbers = map (λ n. (integer_key u64 (pos n), truth true)) numbers

-- whether there is a value, and a condition holds at it
abbrev pub is_truthy : Option Form → Bool
is_truthy None = false
is_truthy (Some value) = truthy_in (meaning value)
