-- Conversions: the integer types of Rust, and the number of a value as one of them.
use Rattle.std.specs.Prelude.{◌^◌, nat_lt, ℕ, ℤ, pos, negsuc, Bool, false, List, codes}
use Rattle.std.specs.Prelude.{if◌then◌else◌, Option, Some, None, Result}
use Rattle.std.specs.Option.{option_and_then, ok_or}
use Rattle.tera_report.specs.Refusal.{Refusal, invalid_argument, number_out_of_range}
use Rattle.tera_meaning.specs.Arithmetic.{and_then, each_ok}
use Rattle.tera_meaning.specs.Form.{Form}
use Rattle.tera_meaning.specs.Integer
use Rattle.tera_meaning.specs.Integer.{IntegerKind}
use Rattle.tera_meaning.specs.Lookup.{name_of}
use Rattle.tera_meaning.specs.Read.{number_in, truth_in}
use Rattle.tera_meaning.specs.Tree.{number}

-- The integer types of Rust, of so many bits, without a sign and with one. `usize` and `isize` have
-- 64
pub data IntegerType : Type 0 where
  u8 : IntegerType
  u16 : IntegerType
  u32 : IntegerType
  u64 : IntegerType
  u128 : IntegerType
  usize : IntegerType
  i8 : IntegerType
  i16 : IntegerType
  i32 : IntegerType
  i64 : IntegerType
  i128 : IntegerType
  isize : IntegerType

abbrev pub type_name : IntegerType → List ℕ
type_name u8 = codes "u8"
type_name u16 = codes "u16"
type_name u32 = codes "u32"
type_name u64 = codes "u64"
type_name u128 = codes "u128"
type_name usize = codes "usize"
type_name i8 = codes "i8"
type_name i16 = codes "i16"
type_name i32 = codes "i32"
type_name i64 = codes "i64"
type_name i128 = codes "i128"
type_name isize = codes "isize"

-- whether a number is one of so many bits without a sign, and of one bit for the sign and so many
-- others
abbrev pub is_unsigned : ℕ → ℤ → Bool
is_unsigned bits (pos n) = nat_lt n (2 ^ bits)
is_unsigned bits (negsuc n) = false

abbrev pub is_signed : ℕ → ℤ → Bool
is_signed bits (pos n) = nat_lt n (2 ^ bits)
is_signed bits (negsuc n) = nat_lt n (2 ^ bits)

-- whether a type has a number. `negsuc n` is -(n + 1)
abbrev pub has_number : IntegerType → ℤ → Bool
has_number u8 z = is_unsigned 8 z
has_number u16 z = is_unsigned 16 z
has_number u32 z = is_unsigned 32 z
has_number u64 z = is_unsigned 64 z
has_number u128 z = is_unsigned 128 z
has_number usize z = is_unsigned 64 z
has_number i8 z = is_signed 7 z
has_number i16 z = is_signed 15 z
has_number i32 z = is_signed 31 z
has_number i64 z = is_signed 63 z
has_number i128 z = is_signed 127 z
has_number isize z = is_signed 63 z

-- the kind in which a value holds a number of a type
abbrev pub kind_of_type : IntegerType → IntegerKind
kind_of_type u8 = Integer.u64
kind_of_type u16 = Integer.u64
kind_of_type u32 = Integer.u64
kind_of_type u64 = Integer.u64
kind_of_type u128 = Integer.u128
kind_of_type usize = Integer.u64
kind_of_type i8 = Integer.i64
kind_of_type i16 = Integer.i64
kind_of_type i32 = Integer.i64
kind_of_type i64 = Integer.i64
kind_of_type i128 = Integer.i128
kind_of_type isize = Integer.i64

-- a number, where a type has it, and that of a value
abbrev pub where_in : IntegerType → ℤ → Option ℤ
where_in type z = if has_number type z then Some z else None

abbrev pub number_of : IntegerType → Form → Option ℤ
number_of type value = option_and_then (where_in type) (number_in value)

-- a number, where a type has it, or the refusal of one that the type has not
abbrev pub in_type : IntegerType → ℤ → Result ℤ Refusal
in_type type z = ok_or (where_in type z) (number_out_of_range z (type_name type))

-- the number of a value as one of a type: no number is refused first, then one outside the type
abbrev pub converted : IntegerType → Form → Result ℤ Refusal
converted type value =
    and_then (ok_or (number_in value) (invalid_argument (type_name type) (name_of value)))
    (in_type type)

-- the truth value of a value
abbrev pub as_truth : Form → Result Bool Refusal
as_truth value = ok_or (truth_in value) (invalid_argument (codes "bool") (name_of value))

-- the value that holds what is converted, in the kind of its type
abbrev pub held_as : IntegerType → ℤ → Form
held_as type z = number (record { kind = kind_of_type type; value = z })

-- the number of a value as one of a type, held in the kind of the type
abbrev pub read_as : IntegerType → Form → Result Form Refusal
read_as type value = each_ok (held_as type) (converted type value)
