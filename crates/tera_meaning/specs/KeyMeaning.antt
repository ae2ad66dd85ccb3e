-- The keys of maps.
use Rattle.std.specs.Prelude.{ℕ, Bool, ℤ, List}
use Rattle.std.specs.Ordering.{nat_cmp, int_cmp, bool_cmp}
use Rattle.std.specs.declared.cmp.Ordering.{Ordering}
use Rattle.std.specs.Cmp.Lexicographic.{slice_cmp}
use Rattle.tera_meaning.specs.Integer.{Integer}

-- N stands at a number and T at a text
pub data KeyOf (N T : Type 0) : Type 0 where
  truth_key : Bool → KeyOf N T
  number_key : N → KeyOf N T
  text_key : T → KeyOf N T

-- A text as a key holds it, owned or borrowed, by its UTF-8 bytes
pub data KeyText : Type 0 where
  owned : List ℕ → KeyText
  borrowed : List ℕ → KeyText

abbrev pub key_text : KeyText → List ℕ
key_text (owned t) = t
key_text (borrowed t) = t

-- What a key means: a truth value, a number or a text
abbrev pub KeyMeaning : Type 0
KeyMeaning = KeyOf ℤ (List ℕ)

-- How a key is held
abbrev pub KeyForm : Type 0
KeyForm = KeyOf Integer KeyText

abbrev pub key_meaning : KeyForm → KeyMeaning
key_meaning (truth_key b) = truth_key b
key_meaning (number_key n) = number_key n.value
key_meaning (text_key t) = text_key (key_text t)

-- truth values before numbers before texts
abbrev pub key_rank : KeyMeaning → ℕ
key_rank (truth_key b) = 0
key_rank (number_key z) = 1
key_rank (text_key t) = 2

-- by rank; false before true, the lesser number, the lesser bytes
abbrev pub key_order : KeyMeaning → KeyMeaning → Ordering
key_order (truth_key a) (truth_key b) = bool_cmp a b
key_order (number_key y) (number_key z) = int_cmp y z
key_order (text_key s) (text_key t) = slice_cmp nat_cmp s t
key_order k l = nat_cmp (key_rank k) (key_rank l)
