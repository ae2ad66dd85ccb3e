-- What conversions of the code give, and what their refusals tell.
use Rattle.std.specs.Prelude.{◌≡◌, ◌⊎◌, ◌++◌, ℕ, codes, List, Option, Some, IfSome, IfNone, Result}
use Rattle.std.specs.Prelude.{Ok, Err}
use Rattle.std.specs.Fmt.{◌++?◌}
use Rattle.tera_meaning.specs.Conversion.{IntegerType}
use Rattle.tera_meaning.specs.Form.{Form}
use Rattle.tera_meaning.specs.Lookup.{name_of}
use Rattle.tera_meaning.specs.Meaning.{layout}
use Rattle.tera_meaning.specs.Quoted.{Prints}
use Rattle.tera_meaning.specs.Read.{number_in}
use Rattle.tera_report.specs.Errors.{Raises, IsOutOfMemory}
use Rattle.tera_report.specs.Refusal.{Refusal, text_of, invalid_argument, out_of_range}
use Rattle.tera_report.specs.Refusal.{number_out_of_range}
use Rattle.tera_report.specs.declared.errors.Error.{Error}
use Rattle.tera_values.specs.Print.{printed_if_exact}
use Rattle.tera_values.specs.declared.integers.IntType.{IntType}
use Rattle.tera_values.specs.declared.integers.IntType.TheVariants as type
use Rattle.tera_values.specs.declared.convert.ConversionRefused.{ConversionRefused}
use Rattle.tera_values.specs.declared.convert.ConversionRefused.TheVariants.{WrongType, OutOfRange}

-- what refuses a value is this refusal, and gives a number back as it was held
abbrev pub IsRefusal : Form → Refusal → ConversionRefused → Type 0
IsRefusal value (invalid_argument wanted kind) (WrongType expected actual) =
    (expected.now ≡ wanted) × (actual.now ≡ kind)
IsRefusal value (number_out_of_range z type) (OutOfRange given target) =
    (given ≡ value) × (number_in value ≡ Some z) × (target.now ≡ type)
IsRefusal value refusal refused = ⊥

-- what is given of a value is this, or its refusal
abbrev pub Gives : {X : Type 0} → Result X Refusal → Form → Result X ConversionRefused → Type 0
Gives due value (Ok x) = due ≡ Ok x
Gives due value (Err refused) = (refusal : Refusal) × (due ≡ Err refusal)
    × IsRefusal value refusal refused

-- the text of a value that is outside a type, where it prints exactly
abbrev pub range_text : Form → List ℕ → Option (List ℕ)
range_text value target =
    Some (codes "Value `") ++? printed_if_exact (layout value)
    ++? Some (codes "` is out of range for `" ++ (target ++ codes "`"))

-- the text of a refusal, where the value that it gives back prints exactly
abbrev pub told_text : ConversionRefused → Option (List ℕ)
told_text (WrongType expected actual) = text_of (invalid_argument expected.now actual.now)
told_text (OutOfRange value target) = range_text value target.now

-- why a conversion to a type of that name is refused, where it is
abbrev pub IsDueTo : Form → List ℕ → ConversionRefused → Type 0
IsDueTo value name refused =
    IfSome (number_in value) (λ z. IsRefusal value (number_out_of_range z name) refused)
    × IfNone (number_in value) (IsRefusal value (invalid_argument name (name_of value)) refused)

-- the error of whatever was not converted: with both names, or with the name of the type and what
-- the value prints; or want of memory
abbrev pub RaisesWhy : ConversionRefused → Error → Type 0
RaisesWhy (WrongType expected actual) error = Raises (invalid_argument expected.now actual.now)
    error
RaisesWhy (OutOfRange value target) error =
    ((text : List ℕ) × Prints (layout value) text × Raises (out_of_range text target.now) error)
    ⊎ IsOutOfMemory error

-- the integer type that the code's `IntType` names
abbrev pub integer_type : IntType → IntegerType
integer_type type.U8 = IntegerType.u8
integer_type type.U16 = IntegerType.u16
integer_type type.U32 = IntegerType.u32
integer_type type.U64 = IntegerType.u64
integer_type type.U128 = IntegerType.u128
integer_type type.Usize = IntegerType.usize
integer_type type.I8 = IntegerType.i8
integer_type type.I16 = IntegerType.i16
integer_type type.I32 = IntegerType.i32
integer_type type.I64 = IntegerType.i64
integer_type type.I128 = IntegerType.i128
integer_type type.Isize = IntegerType.isize
