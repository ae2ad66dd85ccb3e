-- Words: literals without quotes and brackets.
use Rattle.std.proofs.Common.{◌≡◌, ℕ, Bool, true, false, IsTrue, cond, List, [], ◌∷◌, ◌++◌, length, Some, None, refl, ap, sym, ◌∙◌, arith, ◌≤◌, ◌<◌, ◌-◌}
use Rattle.std.specs.Prelude.{codes}
use Rattle.std.specs.Char.{is_ascii_digit}
use Rattle.std.specs.List.{list_all}
use Rattle.std.proofs.lemmas.Bool.Decides.{nat_tests}
use Rattle.std.proofs.lemmas.Slice.Eq.{bytes_eq-Decides}
use Rattle.std.proofs.lemmas.List.Folds.{list_all-append}
use Rattle.std.specs.Str.{bytes_eq}
use Rattle.std.specs.Str.Parse.{IsNumeral}
use Rattle.tera_meaning.specs.Integer.{Integer}
use Rattle.tera_meaning.specs.Form.{Form}
use Rattle.tera_meaning.specs.Tree.{undefined, none, truth, number, text, bytes, array, object, depth}
use Rattle.tera_script.specs.Number.{sign_of, suffix_of, SpellsNumber}
use Rattle.tera_script.specs.Literal.{SpellsTree, tree_value}
use Rattle.tera_script.specs.Word.{is_blank}
use Rattle.tera_script.specs.Readers.{Stops, front, past, digits_from, digits_at, unsigned_in, number_in, is_word_byte, number_value, value_in}
use Rattle.tera_script.proofs.Fronts.{front_is, past_is}
use Rattle.tera_script.proofs.Integers.{number_found, number_only, digits_only}

pub value_found : (word : List ℕ) (v : Form) → value_in word ≡ Some v → SpellsTree word v
unfolding value_in
value_found word v e = grind (arith, bytes_eq-Decides, number_found)

-- a word that spells a number is no other
pub other_word : (word other : List ℕ) (n : Integer) → number_in word ≡ Some n → number_in other ≡ None → bytes_eq word other ≡ false
other_word word other n e not = grind (arith, bytes_eq-Decides)

-- a word that spells a number, as the reader has it
pub of_number : (word : List ℕ) (n : Integer) → number_in word ≡ Some n → value_in word ≡ Some (number n)
unfolding value_in number_in unsigned_in digits_at
of_number word n e =
    let no = λ (other : List ℕ). other_word word other n e in
    rw (no (codes "undefined") refl, no (codes "none") refl, no (codes "true") refl, no (codes "false") refl) (ap number_value e)

-- the bytes of a number
digits_are_word : (digits : List ℕ) → list_all is_ascii_digit digits ≡ true → list_all is_word_byte digits ≡ true
digits_are_word [] h = refl
digits_are_word (b ∷ digits) h = grind (arith, nat_tests, digits_are_word digits)

pub numeral_is_word : (minus : Bool) (digits : List ℕ) → IsNumeral 10 digits → list_all is_word_byte (sign_of minus ++ digits) ≡ true
numeral_is_word minus digits n = let d = digits_are_word digits (digits_only digits n.1) in grind (arith, list_all-append {X = ℕ})

pub number_is_word : (word : List ℕ) (n : Integer) → SpellsNumber word n → list_all is_word_byte word ≡ true
number_is_word word n h =
    let d = numeral_is_word h.minus h.digits h.numeral in
    let s : list_all is_word_byte (suffix_of h.suffix) ≡ true = grind arith in
    rw (h.spelled, list_all-append is_word_byte (sign_of h.minus ++ h.digits) (suffix_of h.suffix), d) s

-- digits that no byte of a word follows are the whole word
digit_is_word : (b : ℕ) → IsTrue (is_ascii_digit b) → is_word_byte b ≡ true
digit_is_word b d = grind (arith, nat_tests)

pub whole_word : (xs rest ys : List ℕ) (first n : ℕ) → IsTrue (is_ascii_digit first) × (xs ≡ first ∷ ys) → Stops is_word_byte rest
    → digits_from n (front is_word_byte rest) ≡ digits_from 0 (front is_word_byte xs) → digits_at (front is_word_byte xs) ≡ Some (n, [])
unfolding digits_at
whole_word xs rest ys first n begins stops same =
    let found : digits_from 0 (front is_word_byte xs) ≡ Some (n, []) = sym same ∙ ap (digits_from n) (front_is is_word_byte [] rest refl stops) in
    let word : front is_word_byte xs ≡ first ∷ front is_word_byte ys
    = ap (front is_word_byte) (begins.1) ∙ ap (λ b. cond b (first ∷ front is_word_byte ys) []) (digit_is_word first (begins.0)) in
    rw found (rw word (grind (arith, nat_tests)))

-- a literal is a word that names the value
pub record IsWord (literal : List ℕ) (value : Form) : Type 0 where
  pub names : value_in literal ≡ Some value
  pub bytes : list_all is_word_byte literal ≡ true

abbrev pub IsFlat : Form → Type 0
IsFlat (text t) = ⊥
IsFlat (bytes bs) = ⊥
IsFlat (array xs) = ⊥
IsFlat (object ps) = ⊥
IsFlat v = Unit {0}

pub flat_word : (literal : List ℕ) (v : Form) → IsFlat v → SpellsTree literal v → IsWord literal v
unfolding value_in
flat_word literal undefined f h = rw h (record { names = refl; bytes = refl })
flat_word literal none f h = rw h (record { names = refl; bytes = refl })
flat_word literal (truth true) f h = rw h (record { names = refl; bytes = refl })
flat_word literal (truth false) f h = rw h (record { names = refl; bytes = refl })
flat_word literal (number n) f h = record { names = of_number literal n (number_only literal n h); bytes = number_is_word literal n h }
flat_word literal v f h = absurd f

-- a word is what stands at the front
pub word_front : (xs literal rest : List ℕ) (value : Form) → IsWord literal value → xs ≡ literal ++ rest → Stops is_word_byte rest
    → value_in (front is_word_byte xs) ≡ Some value
word_front xs literal rest value w e s = ap (λ ys. value_in (front is_word_byte ys)) e ∙ ap value_in (front_is is_word_byte literal rest w.bytes s) ∙ w.names

pub word_behind : (xs literal rest : List ℕ) (value : Form) → IsWord literal value → xs ≡ literal ++ rest → Stops is_word_byte rest → past is_word_byte xs
    ≡ rest
word_behind xs literal rest value w e s = ap (past is_word_byte) e ∙ past_is is_word_byte literal rest w.bytes s

pub no_value_nowhere : value_in [] ≡ None
unfolding value_in number_in
no_value_nowhere = refl

pub word_is_not_blank : (word rest : List ℕ) → 0 < length word → list_all is_word_byte word ≡ true → Stops is_blank (word ++ rest)
word_is_not_blank [] rest some h = absurd (omega (arith, some))
word_is_not_blank (b ∷ word) rest some h = grind (arith, nat_tests)

pub word_stops_blanks : (literal rest : List ℕ) (value : Form) → IsWord literal value → Stops is_blank (literal ++ rest)
word_stops_blanks [] rest value w = let n = w.names in let m = no_value_nowhere in cc
word_stops_blanks (b ∷ literal) rest value w = word_is_not_blank (b ∷ literal) rest (omega arith) w.bytes

-- no word spells an array or a map
pub value_is_flat : (levels : ℕ) (word : List ℕ) (v : Form) → value_in word ≡ Some v → (v ≡ tree_value v) × (depth v ≤ levels)
unfolding value_in
value_is_flat levels word v e = grind arith
