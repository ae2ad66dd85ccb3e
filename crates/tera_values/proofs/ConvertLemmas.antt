-- What conversions give, and what their refusals are told by.
use Rattle.std.specs.Prelude.{◌≡◌, ℕ, ℤ, Bool, true, false, codes, List, Option, Some, None, IfSome, IfNone, Err, if◌then◌else◌, refl}
use Rattle.std.proofs.Common.{ap}
use Rattle.std.specs.Option.{option_and_then, ok_or}
use Rattle.tera_meaning.specs.Arithmetic.{and_then}
use Rattle.tera_meaning.specs.Conversion.{IntegerType, type_name, where_in, number_of, in_type, converted, as_truth}
use Rattle.tera_meaning.specs.Form.{Form}
use Rattle.tera_meaning.specs.Lookup.{name_of}
use Rattle.tera_meaning.specs.Meaning.{Meaning}
use Rattle.tera_meaning.specs.Printed.{printed, is_exact}
use Rattle.tera_meaning.specs.Quoted.{Prints}
use Rattle.tera_meaning.proofs.QuotedLaws.{alone_exact}
use Rattle.tera_meaning.specs.Read.{number_in, truth_in}
use Rattle.tera_report.specs.Quoted.{IsText}
use Rattle.tera_report.specs.Refusal.{Refusal, invalid_argument, number_out_of_range}
use Rattle.tera_values.specs.Converted.{Gives, IsRefusal, IsDueTo}
use Rattle.tera_values.specs.Print.{printed_if_exact}
use Rattle.tera_values.specs.declared.convert.ConversionRefused.{ConversionRefused}

-- a value without a number of the type is refused for that
pub outside_is_refused : (type : IntegerType) (value : Form) (refused : ConversionRefused) → number_of type value ≡ None
    → IsDueTo value (type_name type) refused → Gives (converted type value) value (Err refused)
outside_is_refused type value refused none due = by (number_in value) none due
  where
    by : (n : Option ℤ) → option_and_then (where_in type) n ≡ None
        → IfSome n (λ z. IsRefusal value (number_out_of_range z (type_name type)) refused)
        × IfNone n (IsRefusal value (invalid_argument (type_name type) (name_of value)) refused)
        → (refusal : Refusal) × (and_then (ok_or n (invalid_argument (type_name type) (name_of value))) (in_type type) ≡ Err refusal)
        × IsRefusal value refusal refused
    by None e h = (invalid_argument (type_name type) (name_of value), refl, h.1)
    by (Some z) e h =
        (number_out_of_range z (type_name type), ap (λ o. ok_or o (number_out_of_range z (type_name type))) e, h.0)

-- a value that is no truth value is refused for that
pub no_truth_is_refused : (value : Form) (refused : ConversionRefused) → truth_in value ≡ None
    → IsRefusal value (invalid_argument (codes "bool") (name_of value)) refused → Gives (as_truth value) value (Err refused)
no_truth_is_refused value refused none due =
    (invalid_argument (codes "bool") (name_of value), ap (λ o. ok_or o (invalid_argument (codes "bool") (name_of value))) none, due)

-- what is printed of a meaning is its text, where that is known
pub printed_is_text : (x : Meaning) (bytes : List ℕ) → Prints x bytes → IsText (printed_if_exact x) bytes
printed_is_text x bytes h = by (is_exact x) (λ exact. alone_exact x bytes exact h)
  where
    by : (b : Bool) → (b ≡ true → bytes ≡ printed x) → IsText (if b then Some (printed x) else None) bytes
    by true g = g refl
    by false g = tt
