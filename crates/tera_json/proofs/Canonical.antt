-- An integer is written as its text is, but for -0.
use Rattle.std.specs.Prelude.{◌≡◌, ℕ, ℤ, pos, negsuc, neg_ℤ, zero, suc, ◌+◌, ◌*◌, ◌/◌, ◌%◌, ◌^◌, ◌<◌, ◌≤◌, Bool, true, false, ◌==◌}
use Rattle.std.specs.Prelude.{cond, if◌then◌else◌, List, [], ◌∷◌, ◌++◌, length, drop, get_or, slice_index, Option, Some, None, option_and_then, decimal}
use Rattle.std.specs.Prelude.{codes}
use Rattle.std.proofs.Common.{refl, sym, ap, ◌∙◌, subst, arith, append-nil}
use Rattle.std.proofs.lemmas.Bool.{ne_eqb, eqb-true, eqb-false, ltb-true, true≢false}
use Rattle.std.proofs.lemmas.Fmt.{decimal_digit, decimal_step_wide}
use Rattle.std.proofs.lemmas.List.{append_assoc}
use Rattle.std.proofs.lemmas.Slice.Eq.{bytes_eq-Decides}
use Rattle.std.proofs.lemmas.Str.{digit_value_digit}
use Rattle.std.proofs.lemmas.Str.Parse.{digit_from_value, without_leading_plus_none}
use Rattle.std.specs.Char.{digit_value}
use Rattle.std.specs.Fmt.{signed_decimal}
use Rattle.std.specs.Str.{bytes_eq}
use Rattle.std.specs.Str.Parse.{AllDigits, IsNumeral, digits_value, digits_value_after, starts_with_minus, without_leading_plus}
use Rattle.std.specs.Str.Parse.{without_leading_sign, signed_digits_value}
use Rattle.json.specs.Word.{after_whole, after_fraction, after_exponent, after_number}
use Rattle.json.specs.Print.{IsNumber}
use Rattle.tera_json.specs.Numbers.{holds, in_kind, in_first_kind, integer_in, is_integer}
use Rattle.tera_json.proofs.Decimals.{first_digit}
use Rattle.tera_json.proofs.Numbers.{test_digits}
use Rattle.tera_meaning.specs.Integer.{Integer, IntegerKind, IsWide, u64, i64, u128, i128}

-- ---- the digits of a number

-- more digits make no lesser number
not_less : (ds : List ℕ) (n : ℕ) → n ≤ digits_value_after 10 n ds
not_less [] n = omega arith
not_less (c ∷ cs) n = omega (arith, not_less cs (n * 10 + digit_value c))

digits_behind : (n : ℕ) (ds : List ℕ) → 0 < n → AllDigits 10 ds → digits_value_after 10 n ds < 10 ^ 64
    → decimal (digits_value_after 10 n ds) ≡ decimal n ++ ds
digits_behind n [] some all small = sym (append-nil (decimal n))
digits_behind n (c ∷ cs) some all small =
    let m : ℕ = n * 10 + digit_value c in
    let k = digit_value_digit c (digit_from_value c all.0) in
    let front : m / 10 ≡ n = omega (arith, all.0) in
    let end : 48 + m % 10 ≡ c = omega (arith, all.0) in
    digits_behind m cs (omega arith) all.1 small
    ∙ ap (λ x. x ++ cs) (decimal_step_wide m (omega arith) (omega (arith, not_less cs m)) ∙ (λ i. decimal (front i) ++ (end i ∷ [])))
    ∙ append_assoc (decimal n) (c ∷ []) cs

-- digits of which a 0 stands first only by itself are what is written of their number
own_digits : (ds : List ℕ) → AllDigits 10 ds → 0 < length ds → (get_or ds 0 0 ≡ 48 → length ds ≡ 1) → digits_value 10 ds < 10 ^ 64
    → decimal (digits_value 10 ds) ≡ ds
own_digits [] all some lead small = absurd (omega arith)
own_digits (c ∷ []) all some lead small =
    let k = digit_value_digit c (digit_from_value c all.0) in
    decimal_digit (0 * 10 + digit_value c) (omega (arith, all.0)) ∙ ap (λ x. x ∷ []) (omega arith)
own_digits (c ∷ d ∷ cs) all some lead small =
    let k = digit_value_digit c (digit_from_value c all.0) in
    let later : c ≡ 48 → ⊥ = λ z. omega (arith, lead z) in
    let is : 48 + (0 * 10 + digit_value c) ≡ c = omega arith in
    digits_behind (0 * 10 + digit_value c) (d ∷ cs) (omega arith) all.1 small
    ∙ ap (λ x. x ++ (d ∷ cs)) (decimal_digit (0 * 10 + digit_value c) (omega (arith, all.0)) ∙ ap (λ x. x ∷ []) is)

-- ---- the text of a number

-- what stands behind a sign is the whole of a number
IsRest : List ℕ → Type 0
IsRest ds = option_and_then after_exponent (option_and_then after_fraction (after_whole ds)) ≡ Some []

digit_stays : (c : ℕ) (cs : List ℕ) → 48 ≤ c → c ≤ 57 → option_and_then after_exponent (after_fraction (c ∷ cs)) ≡ Some (c ∷ cs)
digit_stays c cs low high = rw (ne_eqb c 46 (λ e. omega arith), ne_eqb c 101 (λ e. omega arith), ne_eqb c 69 (λ e. omega arith)) refl

-- a 0 stands first only by itself
zero_alone : (ds : List ℕ) → AllDigits 10 ds → IsRest ds → get_or ds 0 0 ≡ 48 → length ds ≡ 1
unfolding IsRest
zero_alone [] all is e = absurd (omega (arith, e))
zero_alone (c ∷ []) all is e = omega arith
zero_alone (c ∷ d ∷ cs) all is e =
    let k = digit_from_value d all.1.0 in
    let rest : IsRest (48 ∷ d ∷ cs) = subst (λ x. IsRest (x ∷ d ∷ cs)) e is in
    let left : Some (d ∷ cs) ≡ Some [] = sym (digit_stays d cs k.0 k.1) ∙ rest in
    cc

behind_minus : (cs : List ℕ) → IsNumber (45 ∷ cs) → IsRest cs
unfolding after_number IsRest
behind_minus cs h = h

no_plus : (cs : List ℕ) → IsNumber (43 ∷ cs) → ⊥
unfolding after_number
no_plus cs h = cc

without_minus : (s : List ℕ) → (slice_index s 0 ≡ 45 → ⊥) → IsNumber s → IsRest s
unfolding after_number IsRest
without_minus [] other h = h
without_minus (c ∷ cs) other h = rw (ne_eqb c 45 other) at h

-- ---- the number of a text

holds_wide : (kind : IntegerKind) (z : ℤ) → holds kind z ≡ true → IsWide z
holds_wide u64 (pos n) e = let less : n < 2 ^ 64 = ltb-true n (2 ^ 64) e in omega arith
holds_wide u64 (negsuc n) e = absurd (true≢false (sym e))
holds_wide i64 (pos n) e = let less : n < 2 ^ 63 = ltb-true n (2 ^ 63) e in omega arith
holds_wide i64 (negsuc n) e = let less : n < 2 ^ 63 = ltb-true n (2 ^ 63) e in omega arith
holds_wide u128 (pos n) e = let less : n < 2 ^ 128 = ltb-true n (2 ^ 128) e in omega arith
holds_wide u128 (negsuc n) e = absurd (true≢false (sym e))
holds_wide i128 (pos n) e = let less : n < 2 ^ 127 = ltb-true n (2 ^ 127) e in omega arith
holds_wide i128 (negsuc n) e = let less : n < 2 ^ 127 = ltb-true n (2 ^ 127) e in omega arith

abbrev IsHeld : ℤ → Integer → Type 0
IsHeld z n = (n.value ≡ z) × IsWide z

abbrev value_or : ℤ → Option Integer → ℤ
value_or z (Some m) = m.value
value_or z None = z

held_in : (z : ℤ) (n : Integer) (kind : IntegerKind) (o : Option Integer) → (o ≡ Some n → IsHeld z n) → in_kind kind z o ≡ Some n → IsHeld z n
held_in z n kind o more = go (holds kind z) (holds_wide kind z)
  where
    go : (b : Bool) → (b ≡ true → IsWide z) → cond b (Some (record { kind = kind; value = z })) o ≡ Some n → IsHeld z n
    go true wide e = (sym (ap (λ q. value_or z q) e), wide refl)
    go false wide e = more e

held : (z : ℤ) (n : Integer) → in_first_kind z ≡ Some n → IsHeld z n
held z n = held_in z n i64 _ (held_in z n u64 _ (held_in z n i128 _ (held_in z n u128 None (λ e. cc))))

-- what an integer's text is: digits behind a sign or none, and a number that some kind holds
pub integer_is : (s : List ℕ) (n : Integer) → integer_in s ≡ Some n → IsNumeral 10 (without_leading_sign s) × IsHeld (signed_digits_value 10 s) n
integer_is s n = go (is_integer s) (test_digits (without_leading_sign s))
  where
    go : (b : Bool) → (b ≡ true → IsNumeral 10 (without_leading_sign s)) → cond b (in_first_kind (signed_digits_value 10 s)) None ≡ Some n
        → IsNumeral 10 (without_leading_sign s) × IsHeld (signed_digits_value 10 s) n
    go true digits e = (digits refl, held _ n e)
    go false digits e = cc

-- ---- written again

-- the text of a number, but for -0
abbrev tidy : List ℕ → List ℕ
tidy s = if bytes_eq s (codes "-0") then codes "0" else s

tidy_other : (s : List ℕ) → (s ≡ codes "-0" → ⊥) → s ≡ tidy s
tidy_other s other = go (bytes_eq s (codes "-0")) (bytes_eq-Decides s (codes "-0")).0
  where
    go : (b : Bool) → (b ≡ true → s ≡ codes "-0") → s ≡ cond b (codes "0") s
    go true is = absurd (other (is refl))
    go false is = refl

-- a number that is not positive, behind a minus
minus_again : (n : ℕ) (ds : List ℕ) → n < 10 ^ 64 → decimal n ≡ ds → signed_decimal (neg_ℤ (pos n)) ≡ tidy (45 ∷ ds)
minus_again zero ds small e = let none = decimal_digit 0 (omega arith) in none ∙ ap (λ x. tidy (45 ∷ x)) (sym none ∙ e)
minus_again (suc n) ds small e =
    ap (λ x. 45 ∷ x) e
    ∙ tidy_other (45 ∷ ds) (λ is. omega (arith, first_digit (suc n) (omega arith) small, ap (λ x. get_or x 0 0) e, ap (λ x. get_or (drop 1 x) 0 0) is))

-- the digits and the number of a text, by whether a minus stands first
abbrev digits_by : List ℕ → Bool → List ℕ
digits_by s b = cond b (drop 1 s) (without_leading_plus s)

abbrev number_by : List ℕ → Bool → ℤ
number_by s b = cond b (neg_ℤ (pos (digits_value 10 (digits_by s b)))) (pos (digits_value 10 (digits_by s b)))

by_minus : (s : List ℕ) (b : Bool) → (slice_index s 0 == 45) ≡ b → IsNumber s → IsNumeral 10 (digits_by s b) → IsWide (number_by s b)
    → signed_decimal (number_by s b) ≡ tidy s
by_minus [] true e number digits wide = absurd (omega (arith, eqb-true 0 45 e))
by_minus (c ∷ cs) true e number digits wide =
    let is : c ≡ 45 = eqb-true c 45 e in
    let rest = behind_minus cs (subst (λ x. IsNumber (x ∷ cs)) is number) in
    let small = minus_small (digits_value 10 cs) wide in
    minus_again (digits_value 10 cs) cs small (own_digits cs digits.1 digits.0 (zero_alone cs digits.1 rest) small)
    ∙ ap (λ x. tidy (x ∷ cs)) (sym is)
  where
    minus_small : (n : ℕ) → IsWide (neg_ℤ (pos n)) → n < 10 ^ 64
    minus_small zero h = omega arith
    minus_small (suc n) h = omega (arith, h)
by_minus s false e number digits wide =
    let no_minus : (slice_index s 0 ≡ 45 → ⊥) = eqb-false _ 45 e in
    let bare = without_leading_plus_none s (λ p. first_is_plus s p number) in
    let all = subst (IsNumeral 10) bare digits in
    let same = ap (λ x. digits_value 10 x) bare in
    ap decimal same ∙ own_digits s all.1 all.0 (zero_alone s all.1 (without_minus s no_minus number)) (omega (arith, wide, same))
    ∙ tidy_other s (λ is. no_minus (ap (λ x. slice_index x 0) is))
  where
    first_is_plus : (t : List ℕ) → get_or t 0 0 ≡ 43 → IsNumber t → ⊥
    first_is_plus [] p h = omega (arith, p)
    first_is_plus (c ∷ cs) p h = no_plus cs (subst (λ x. IsNumber (x ∷ cs)) p h)

-- a number of JSON that is an integer is written as its text, but for -0
pub integer_again : (s : List ℕ) (n : Integer) → IsNumber s → integer_in s ≡ Some n → signed_decimal n.value ≡ tidy s
integer_again s n number e =
    let is = integer_is s n e in
    ap signed_decimal is.1.0 ∙ by_minus s (starts_with_minus s) refl number is.0 is.1.1
