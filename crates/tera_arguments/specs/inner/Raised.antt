-- The error of a value that is no integer of a type.
use Rattle.std.specs.Prelude.{ℕ, List, Result, Err, MatchOption}
use Rattle.tera_meaning.specs.Form.{Form}
use Rattle.tera_meaning.specs.Lookup.{name_of}
use Rattle.tera_meaning.specs.Read.{number_in}
use Rattle.tera_report.specs.Errors.{Raises}
use Rattle.tera_report.specs.Refusal.{Refusal, stated, invalid_argument}
use Rattle.tera_report.specs.declared.errors.Error.{Error}
use Rattle.tera_values.specs.Converted.{IsRefusal}
use Rattle.tera_values.specs.declared.convert.ConversionRefused.{ConversionRefused}

-- the error of a call that is to give the number of a value as one of a type of that name: the
-- value is no number, or it is what the conversion's refusal, whichever it is, raises
abbrev pub IsRaised : {X : Type 0} → (Form → Result X ConversionRefused → Type 0) → Form → List ℕ
    → Error → Type 0
IsRaised gives value name e = MatchOption (number_in value)
    (Raises (invalid_argument name (name_of value)) e)
    (λ z. (why : ConversionRefused) × gives value (Err why)
    × ((held : Form) (refusal : Refusal) → IsRefusal held refusal why → Raises (stated refusal) e))
