-- What is found, by its meaning, and the forms at names.
use Rattle.std.specs.Prelude.{◌≡◌, ℕ, List, Option, Result, Ok, Err, IfSome}
use Rattle.std.proofs.Common.{rules}
use Rattle.std.specs.Option.{option_map}
use Rattle.std.specs.Str.{IsUtf8}
use Rattle.tera_report.specs.Refusal.{Refusal, shape as refusal_shape}
use Rattle.tera_meaning.specs.Alike.{MeanTheSame}
use Rattle.tera_meaning.specs.Form.{Form}
use Rattle.tera_meaning.specs.Meaning.{Meaning, meaning}
use Rattle.tera_meaning.specs.Search.{Found}
use Rattle.tera_meaning.specs.State.{State, read, form_at, meaning_at}
use Rattle.tera_meaning.specs.WellMade.{IsWellMade, IsWellMadeState}

-- what is found, by its meaning
abbrev pub found_shape : Found → Result (Option Meaning) Refusal
found_shape (Ok value) = Ok (option_map meaning value)
found_shape (Err refusal) = Err (refusal_shape refusal)

pub read_alike : (o p : Option Form) → option_map meaning o ≡ option_map meaning p → meaning (read o) ≡ meaning (read p)
read_alike o p e = search rules

pub meaning_alike : (f g : State) → MeanTheSame f g → (name : List ℕ) → meaning_at f name ≡ meaning_at g name
meaning_alike f g h name = search rules

-- a form that is held under a name that is UTF-8 is well made
abbrev pub IsHeldWell : List ℕ → Option Form → Type 0
IsHeldWell name o = IfSome o (λ value. IsUtf8 name × IsWellMade value)

pub form_at_well : (state : State) → IsWellMadeState state → (name : List ℕ) → IsWellMade (form_at state name)
form_at_well state h name = search rules
