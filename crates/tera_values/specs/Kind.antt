-- From the code's kinds to the kinds of the model.
use Rattle.tera_meaning.specs.Integer.{u64, i64, u128, i128}
use Rattle.tera_meaning.specs.Kind.{Kind, undefined_kind, none_kind, truth_kind, number_kind}
use Rattle.tera_meaning.specs.Kind.{text_kind, array_kind, object_kind, bytes_kind}
use Rattle.tera_values.specs.declared.kind.ValueKind.{ValueKind}
use Rattle.tera_values.specs.declared.kind.ValueKind.TheVariants.{Undefined, None, Bool, U64, I64}
use Rattle.tera_values.specs.declared.kind.ValueKind.TheVariants.{U128, I128, String, Array, Map}
use Rattle.tera_values.specs.declared.kind.ValueKind.TheVariants.{Bytes}

abbrev pub kind_form : ValueKind → Kind
kind_form Undefined = undefined_kind
kind_form None = none_kind
kind_form Bool = truth_kind
kind_form U64 = number_kind u64
kind_form I64 = number_kind i64
kind_form U128 = number_kind u128
kind_form I128 = number_kind i128
kind_form String = text_kind
kind_form Array = array_kind
kind_form Map = object_kind
kind_form Bytes = bytes_kind
