-- Numbers: what the reader gives is spelled so, and what is spelled so is read.
use Rattle.std.proofs.Common.{◌≡◌, ◌≢◌, ◌+◌, ◌*◌, ◌<◌, ◌≤◌, ◌^◌, ℕ, Bool, true, false, List, [], ◌∷◌, ◌++◌, length, Option, Some, None, refl, ap, sym, ◌∙◌, ◌⊎◌}
use Rattle.std.proofs.Common.{inl, inr, arith, append_assoc, length-append, subst}
use Rattle.std.specs.Char.{digit_value, is_ascii_digit}
use Rattle.std.specs.List.{list_all}
use Rattle.std.specs.Str.Parse.{AllDigits, IsNumeral, digits_value, digits_value_after}
use Rattle.std.proofs.lemmas.Bool.Decides.{nat_tests}
use Rattle.std.proofs.lemmas.Slice.Eq.{bytes_eq-Decides}
use Rattle.std.proofs.lemmas.Str.Parse.{digit_from_value}
use Rattle.tera_meaning.specs.Integer.{IntegerKind, Integer, IsOfKind}
use Rattle.tera_script.specs.Number.{sign_of, suffix_of, signed, IsKindFor, SpellsNumber}
use Rattle.tera_script.specs.Readers.{Stops, digits_from, digits_at, suffix_in, integer_of, unsigned_in, number_in}

-- the tests and the facts
pub magnitude_fits : (kind : IntegerKind) (minus : Bool) (m : ℕ) → IsOfKind kind (signed minus m) → m < 2 ^ 128
magnitude_fits kind minus m h = grind arith

-- digits, as a test
pub digits_only : (bytes : List ℕ) → AllDigits 10 bytes → list_all is_ascii_digit bytes ≡ true
digits_only [] h = refl
digits_only (b ∷ bytes) h = grind (arith, nat_tests, digit_from_value, digits_only bytes)

suffix_only : (suffix : Option IntegerKind) → suffix_in (suffix_of suffix) ≡ Some suffix
unfolding suffix_in
suffix_only suffix = grind arith

suffix_found : (word : List ℕ) (suffix : Option IntegerKind) → suffix_in word ≡ Some suffix → word ≡ suffix_of suffix
unfolding suffix_in
suffix_found word suffix e = grind (arith, bytes_eq-Decides)

-- the value and the kind of a number with this sign, these digits and this suffix, and that 128 bits hold it
integer_found : (minus : Bool) (m : ℕ) (suffix : Option IntegerKind) (n : Integer) → integer_of minus m suffix ≡ Some n
    → (n.value ≡ signed minus m) × IsKindFor minus suffix n
unfolding integer_of
integer_found minus m suffix n e = grind (arith, nat_tests)

integer_only : (minus : Bool) (m : ℕ) (suffix : Option IntegerKind) (n : Integer) → n.value ≡ signed minus m → IsKindFor minus suffix n
    → integer_of minus m suffix ≡ Some n
unfolding integer_of
integer_only minus m suffix n v h = grind (arith, nat_tests)

integer_fits : (minus : Bool) (m : ℕ) (suffix : Option IntegerKind) (n : Integer) → n.value ≡ signed minus m → IsKindFor minus suffix n → m < 2 ^ 128
integer_fits minus m suffix n v h = grind arith

-- digits
pub record HasDigits (bytes : List ℕ) (m : ℕ) (rest : List ℕ) : Type 0 where
  pub digits : List ℕ
  pub numeral : IsNumeral 10 digits
  pub value : m ≡ digits_value 10 digits
  pub spelled : bytes ≡ digits ++ rest
  pub stops : Stops is_ascii_digit rest

digits_found : (n : ℕ) (bytes : List ℕ) (m : ℕ) (rest : List ℕ) → digits_from n bytes ≡ Some (m, rest)
    → (digits : List ℕ) × AllDigits 10 digits × (m ≡ digits_value_after 10 n digits) × (bytes ≡ digits ++ rest) × Stops is_ascii_digit rest
digits_found n [] m rest e = grind arith
digits_found n (b ∷ bytes) m rest e =
    let h : ((digit_value b < 10) × (digits_from (n * 10 + digit_value b) bytes ≡ Some (m, rest)))
    ⊎ ((is_ascii_digit b ≡ false) × (m ≡ n) × (b ∷ bytes ≡ rest)) = grind (arith, nat_tests) in
    elim h [
      | inl h ↦ let more = digits_found (n * 10 + digit_value b) bytes m rest h.1 in
          (b ∷ more.0, (h.0, more.1), more.2, ap (λ xs. b ∷ xs) more.3, more.4)
      | inr h ↦ ([], tt, h.1, h.2, subst (Stops is_ascii_digit) h.2 h.0)
    ]

pub digits_at_found : (bytes : List ℕ) (m : ℕ) (rest : List ℕ) → digits_at bytes ≡ Some (m, rest) → HasDigits bytes m rest
unfolding digits_at
digits_at_found bytes m rest e =
    let h : (digits_from 0 bytes ≡ Some (m, rest)) × (length rest ≢ length bytes) = grind (arith, nat_tests) in
    let found = digits_found 0 bytes m rest h.0 in
    record {
      digits = found.0;
      numeral = (omega (arith, h.1, ap length found.3, length-append found.0 rest), found.1);
      value = found.2;
      spelled = found.3;
      stops = found.4;
    }

-- digits make no number smaller
value_ge : (n : ℕ) (digits : List ℕ) → n ≤ digits_value_after 10 n digits
value_ge n [] = omega arith
value_ge n (b ∷ digits) = omega (arith, value_ge (n * 10 + digit_value b) digits)

digits_read : (n : ℕ) (digits rest : List ℕ) → AllDigits 10 digits → digits_value_after 10 n digits < 2 ^ 128 → Stops is_ascii_digit rest
    → digits_from n (digits ++ rest) ≡ Some (digits_value_after 10 n digits, rest)
digits_read n [] [] h small s = refl
digits_read n [] (b ∷ rest) h small s = grind arith
digits_read n (d ∷ digits) rest h small s =
    let m = n * 10 + digit_value d in
    grind (arith, nat_tests, digit_from_value d h.0, value_ge m digits, digits_read m digits rest h.1 small s)

pub digits_at_only : (digits rest : List ℕ) → IsNumeral 10 digits → digits_value 10 digits < 2 ^ 128 → Stops is_ascii_digit rest
    → digits_at (digits ++ rest) ≡ Some (digits_value 10 digits, rest)
unfolding digits_at
digits_at_only digits rest n small s =
    rw (digits_read 0 digits rest n.1 small s) (grind (arith, nat_tests, n.0, length-append digits rest))

-- whole numbers
unsigned_found : (minus : Bool) (bytes : List ℕ) (n : Integer) → unsigned_in minus bytes ≡ Some n → SpellsNumber (sign_of minus ++ bytes) n
unfolding unsigned_in
unsigned_found minus bytes n e =
    let h : (m : ℕ) × (rest : List ℕ) × (suffix : Option IntegerKind) × (digits_at bytes ≡ Some (m, rest)) × (suffix_in rest ≡ Some suffix)
    × (integer_of minus m suffix ≡ Some n) = grind arith in
    let digits = digits_at_found bytes h.0 h.1 h.3 in
    let integer = integer_found minus h.0 h.2 n h.5 in
    record {
      minus = minus;
      digits = digits.digits;
      suffix = h.2;
      numeral = digits.numeral;
      spelled = ap (λ xs. sign_of minus ++ xs) (digits.spelled ∙ ap (λ xs. digits.digits ++ xs) (suffix_found h.1 h.2 h.4))
          ∙ sym (append_assoc (sign_of minus) digits.digits (suffix_of h.2));
      value = integer.0 ∙ ap (signed minus) digits.value;
      kind = integer.1;
    }

pub number_found : (word : List ℕ) (n : Integer) → number_in word ≡ Some n → SpellsNumber word n
unfolding number_in
number_found [] n e = cc
number_found (b ∷ bytes) n e =
    let h : ((b ≡ 45) × (unsigned_in true bytes ≡ Some n)) ⊎ (unsigned_in false (b ∷ bytes) ≡ Some n) = grind (arith, nat_tests) in
    elim h [ inl h ↦ rw (h.0) (unsigned_found true bytes n h.1) | inr h ↦ unsigned_found false (b ∷ bytes) n h ]

sign_is_read : (minus : Bool) (digits rest : List ℕ) → IsNumeral 10 digits → number_in (sign_of minus ++ (digits ++ rest)) ≡ unsigned_in minus (digits ++ rest)
unfolding number_in
sign_is_read true digits rest n = refl
sign_is_read false [] rest n = absurd (omega (arith, n.0))
sign_is_read false (b ∷ digits) rest n = grind (arith, nat_tests, digit_from_value b n.1.0)

pub number_only : (word : List ℕ) (n : Integer) → SpellsNumber word n → number_in word ≡ Some n
unfolding unsigned_in
number_only word n h =
    let small = integer_fits h.minus (digits_value 10 h.digits) h.suffix n h.value h.kind in
    let stops : Stops is_ascii_digit (suffix_of h.suffix) = grind arith in
    rw (
      h.spelled,
      append_assoc (sign_of h.minus) h.digits (suffix_of h.suffix),
      sign_is_read h.minus h.digits (suffix_of h.suffix) h.numeral,
      digits_at_only h.digits (suffix_of h.suffix) h.numeral small stops,
      suffix_only h.suffix,
    )
    (integer_only h.minus (digits_value 10 h.digits) h.suffix n h.value h.kind)

-- digits alone, which no minus begins
pub short_number : (minus : Bool) (word : List ℕ) (m : ℕ) → digits_at word ≡ Some (m, []) → unsigned_in minus word ≡ integer_of minus m None
unfolding unsigned_in suffix_in
short_number minus word m digits = rw digits refl

pub no_minus : (word : List ℕ) (m : ℕ) → digits_at word ≡ Some (m, []) → number_in word ≡ unsigned_in false word
unfolding number_in digits_at
no_minus [] m digits = cc
no_minus (b ∷ word) m digits = grind (arith, nat_tests)
