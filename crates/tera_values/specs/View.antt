-- From the code's values to forms.
use Rattle.std.specs.Prelude.{ℕ, pos, ℤ, Bool, List}
use Rattle.std.specs.String.{string_bytes}
use Rattle.tera_meaning.specs.Form.{Form}
use Rattle.tera_meaning.specs.Integer.{IntegerKind, u64, i64, u128, i128}
use Rattle.tera_meaning.specs.Tree.{undefined, none, truth, number, text, bytes, array, object}
use Rattle.tera_meaning.specs.Tree.{items, members}
use Rattle.tera_values.specs.declared.value.ValueInner.{ValueInner}
use Rattle.tera_values.specs.declared.value.ValueInner.TheVariants.{Undefined, None, Bool as Truth}
use Rattle.tera_values.specs.declared.value.ValueInner.TheVariants.{U64, I64, U128, I128, String}
use Rattle.tera_values.specs.declared.value.ValueInner.TheVariants.{Array, Bytes, Map}

-- a number as a value holds it
abbrev pub integer : IntegerKind → ℤ → Form
integer k z = number (record { kind = k; value = z })

-- a text as a value holds it
abbrev pub marked : List ℕ → Bool → Form
marked t b = text (record { spelled = t; safe = b })

abbrev pub form_of : ValueInner → Form
form_of Undefined = undefined
form_of None = none
form_of (Truth b) = truth b
form_of (U64 n) = integer u64 (pos n)
form_of (I64 z) = integer i64 z
form_of (U128 n) = integer u128 (pos n)
form_of (I128 z) = integer i128 z
form_of (String b t) = marked (string_bytes t) b
form_of (Array xs) = array (items xs.items)
form_of (Bytes bs) = bytes bs.items
form_of (Map m) = object (members m)
