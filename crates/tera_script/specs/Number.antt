-- Numbers as a script spells them: an optional minus, digits in base ten, and an optional suffix
-- that names a kind.
use Rattle.std.specs.Prelude.{◌≡◌, ℕ, Bool, true, false, List, [], ◌++◌, ℤ, pos, neg_ℤ, Option}
use Rattle.std.specs.Prelude.{Some, None, codes}
use Rattle.std.specs.Str.Parse.{IsNumeral, digits_value}
use Rattle.tera_meaning.specs.Integer.{IntegerKind, u64, i64, u128, i128, Integer, IsOfKind}
use Rattle.tera_meaning.specs.Kind.{integer_kind_name}

-- a minus, or nothing; the name of a kind, or nothing
abbrev pub sign_of : Bool → List ℕ
sign_of true = codes "-"
sign_of false = []

abbrev pub suffix_of : Option IntegerKind → List ℕ
suffix_of (Some kind) = integer_kind_name kind
suffix_of None = []

-- n, or -n after a minus
abbrev pub signed : Bool → ℕ → ℤ
signed true n = neg_ℤ (pos n)
signed false n = pos n

-- no minus stands before a number with an unsigned suffix
abbrev pub IsSignFor : Bool → IntegerKind → Type 0
IsSignFor true u64 = ⊥
IsSignFor true u128 = ⊥
IsSignFor minus kind = Unit {0}

-- this kind holds the number, and none before it does. The kinds' order is i64, u64, i128, u128
abbrev pub IsFirstKind : IntegerKind → ℤ → Type 0
IsFirstKind i64 z = IsOfKind i64 z
IsFirstKind u64 z = (¬ IsOfKind i64 z) × IsOfKind u64 z
IsFirstKind i128 z = (¬ IsOfKind i64 z) × (¬ IsOfKind u64 z) × IsOfKind i128 z
IsFirstKind u128 z = (¬ IsOfKind i64 z) × (¬ IsOfKind u64 z) × (¬ IsOfKind i128 z) × IsOfKind u128 z

-- the kind of a number with this sign and suffix: the suffix's, which has to hold it; with no
-- suffix the first that does
abbrev pub IsKindFor : Bool → Option IntegerKind → Integer → Type 0
IsKindFor minus (Some kind) n = IsSignFor minus kind × (n.kind ≡ kind) × IsOfKind kind n.value
IsKindFor minus None n = IsFirstKind n.kind n.value

-- the word is a sign, one digit or more, and a suffix, and the number is theirs. So -0 is 0, and
-- zeros may lead
pub record SpellsNumber (word : List ℕ) (number : Integer) : Type 0 where
  pub minus : Bool
  pub digits : List ℕ
  pub suffix : Option IntegerKind
  pub numeral : IsNumeral 10 digits
  pub spelled : word ≡ sign_of minus ++ digits ++ suffix_of suffix
  pub value : number.value ≡ signed minus (digits_value 10 digits)
  pub kind : IsKindFor minus suffix number
