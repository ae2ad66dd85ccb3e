-- From the code's keys to how they are held, and what a key prints, feeds to a hasher and is as a
-- value.
use Rattle.std.specs.Prelude.{ℕ, ◌≤◌, pos, negsuc, ℤ, false, List, ◌++◌, length, Option, Some, None}
use Rattle.std.specs.Hash as hash
use Rattle.std.specs.Rc.{rc_str_bytes}
use Rattle.tera_meaning.specs.Form.{Form}
use Rattle.tera_meaning.specs.Integer.{IntegerKind, u64, i64, u128, i128}
use Rattle.tera_meaning.specs.KeyMeaning.{KeyMeaning, KeyForm, truth_key, number_key, text_key}
use Rattle.tera_meaning.specs.KeyMeaning.{owned, borrowed, key_text, key_meaning}
pub use Rattle.tera_meaning.specs.Printed.{shown_key}
use Rattle.tera_meaning.specs.Tree.{truth, number, text}
use Rattle.tera_values.specs.declared.key.Key.{Key}
use Rattle.tera_values.specs.declared.key.Key.TheVariants.{Bool, U64, I64, U128, I128, String, Str}
use Rattle.tera_values.specs.declared.key.Key.TheVariants.{Inline}

-- a number as a key holds it
abbrev pub integer_key : IntegerKind → ℤ → KeyForm
integer_key k z = number_key (record { kind = k; value = z })

abbrev pub key_form : Key → KeyForm
key_form (Bool b) = truth_key b
key_form (U64 n) = integer_key u64 (pos n)
key_form (I64 z) = integer_key i64 z
key_form (U128 n) = integer_key u128 (pos n)
key_form (I128 z) = integer_key i128 z
key_form (String t) = text_key (owned (rc_str_bytes t))
key_form (Str t) = text_key (borrowed t.now)
key_form (Inline t) = text_key (owned t.bytes)

abbrev pub meaning_of_key : Key → KeyMeaning
meaning_of_key k = key_meaning (key_form k)

-- the text that it is, owned or borrowed
abbrev pub text_in_key : KeyForm → Option (List ℕ)
text_in_key (text_key t) = Some (key_text t)
text_in_key _ = None

-- the text that it owns
abbrev pub owned_in_key : KeyForm → Option (List ℕ)
owned_in_key (text_key (owned t)) = Some t
owned_in_key _ = None

-- a text of at most 16 bytes: a key that owns it is made and cloned without memory
abbrev pub FitsInline : List ℕ → Type 0
FitsInline t = length t ≤ 16

-- the number that it is
abbrev pub number_in_key : KeyForm → Option ℤ
number_in_key (number_key n) = Some n.value
number_in_key _ = None

-- the value that it is: a number of the same kind, a text not marked safe
abbrev pub key_value : KeyForm → Form
key_value (truth_key b) = truth b
key_value (number_key n) = number n
key_value (text_key t) = text (record { spelled = key_text t; safe = false })

-- a number feeds whether it is negative, and then itself in 128 bits
abbrev pub fed_number : ℤ → hash.HashWrites
fed_number (pos n) = hash.u8 0 ++ hash.u128 n
fed_number (negsuc n) = hash.u8 1 ++ hash.i128 (negsuc n)

-- what a key feeds to a hasher
abbrev pub fed : KeyMeaning → hash.HashWrites
fed (truth_key b) = hash.bool b
fed (number_key z) = fed_number z
fed (text_key t) = hash.str t
