-- The kinds of values, and their names.
use Rattle.std.specs.Prelude.{ℕ, List, codes}
use Rattle.tera_meaning.specs.Integer.{IntegerKind, u64, i64, u128, i128}
use Rattle.tera_meaning.specs.Form.{Form}
use Rattle.tera_meaning.specs.Tree.{undefined, none, truth, number, text, bytes, array, object}

-- The kinds of values
pub data Kind : Type 0 where
  undefined_kind : Kind
  none_kind : Kind
  truth_kind : Kind
  number_kind : IntegerKind → Kind
  text_kind : Kind
  array_kind : Kind
  object_kind : Kind
  bytes_kind : Kind

abbrev pub kind_in : Form → Kind
kind_in undefined = undefined_kind
kind_in none = none_kind
kind_in (truth b) = truth_kind
kind_in (number n) = number_kind n.kind
kind_in (text t) = text_kind
kind_in (bytes bs) = bytes_kind
kind_in (array xs) = array_kind
kind_in (object ps) = object_kind

abbrev pub integer_kind_name : IntegerKind → List ℕ
integer_kind_name u64 = codes "u64"
integer_kind_name i64 = codes "i64"
integer_kind_name u128 = codes "u128"
integer_kind_name i128 = codes "i128"

-- the name of a kind
abbrev pub kind_name : Kind → List ℕ
kind_name undefined_kind = codes "undefined"
kind_name none_kind = codes "none"
kind_name truth_kind = codes "bool"
kind_name (number_kind k) = integer_kind_name k
kind_name text_kind = codes "string"
kind_name array_kind = codes "array"
kind_name object_kind = codes "map/struct"
kind_name bytes_kind = codes "bytes"
