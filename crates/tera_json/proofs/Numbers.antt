-- What std's readers of numbers answer, by the definitions of documents.
use Rattle.std.specs.Prelude.{◌≡◌, ◌<◌, ◌^◌, ℕ, ℤ, pos, negsuc, neg_ℤ, Bool, true, false, ◌&&◌, cond}
use Rattle.std.specs.Prelude.{List, [], ◌∷◌, drop, length, Option, Some, None, Result, Ok, Err, FitsSigned, OkIff, nat_lt, zero, suc, slice_index}
use Rattle.std.specs.Int.{w64, w128}
use Rattle.std.specs.Option.{option_map}
use Rattle.std.specs.Result.{result_ok}
use Rattle.std.specs.Str.{all_ascii_digits}
use Rattle.std.specs.Str.Parse.{IsNumeral, ParsesSigned, ParsesUnsigned, without_leading_plus, starts_with_minus}
use Rattle.std.specs.Str.Parse.{digits_value, AllDigits}
use Rattle.std.proofs.Common.{sym, ◌∙◌, ap, arith, ltb-true, lt-ltb, refl, subst, eqb-true}
use Rattle.std.proofs.lemmas.Bool.{cond-true, cond-false, false_from_ne_true, and_from}
use Rattle.std.proofs.lemmas.Str.Parse.{tells_all_ascii_digits, numerals_by_value, digit_from_value, without_leading_plus_none}
use Rattle.tera_json.specs.Numbers.{holds, read_in}
use Rattle.tera_meaning.specs.Integer.{IntegerKind, i64, u64, i128, u128}

both : (a b : Bool) → (a && b) ≡ true → (a ≡ true) × (b ≡ true)
both true true e = (refl, refl)
both true false e = cc
both false b e = cc

digits_test : (ds : List ℕ) → IsNumeral 10 ds → (nat_lt 0 (length ds) && all_ascii_digits ds) ≡ true
digits_test ds h = and_from _ _ (lt-ltb 0 (length ds) h.0) ((numerals_by_value _ tells_all_ascii_digits).from ds h.1)

pub test_digits : (ds : List ℕ) → (nat_lt 0 (length ds) && all_ascii_digits ds) ≡ true → IsNumeral 10 ds
test_digits ds e = let k = both _ _ e in (ltb-true 0 (length ds) k.0, (numerals_by_value _ tells_all_ascii_digits).to ds k.1)

fits_i64 : (z : ℤ) → FitsSigned w64 z → holds i64 z ≡ true
fits_i64 (pos n) h = lt-ltb n (2 ^ 63) h.sfits
fits_i64 (negsuc n) h = lt-ltb n (2 ^ 63) h.sfits

i64_fits : (z : ℤ) → holds i64 z ≡ true → FitsSigned w64 z
i64_fits (pos n) h = let less : n < 2 ^ 63 = ltb-true n (2 ^ 63) h in record { sfits = omega arith }
i64_fits (negsuc n) h = let less : n < 2 ^ 63 = ltb-true n (2 ^ 63) h in record { sfits = omega arith }

fits_i128 : (z : ℤ) → FitsSigned w128 z → holds i128 z ≡ true
fits_i128 (pos n) h = lt-ltb n (2 ^ 127) h.sfits
fits_i128 (negsuc n) h = lt-ltb n (2 ^ 127) h.sfits

i128_fits : (z : ℤ) → holds i128 z ≡ true → FitsSigned w128 z
i128_fits (pos n) h = let less : n < 2 ^ 127 = ltb-true n (2 ^ 127) h in record { sfits = omega arith }
i128_fits (negsuc n) h = let less : n < 2 ^ 127 = ltb-true n (2 ^ 127) h in record { sfits = omega arith }

pub reads_i64 : {E : Type 0} (text : List ℕ) (r : Result ℤ E) → ParsesSigned w64 10 text r → result_ok r ≡ read_in i64 text
reads_i64 text (Ok z) h =
    ap Some h.1 ∙ sym (cond-true _ _ _ (and_from _ _ (digits_test _ h.0.0) (fits_i64 _ h.0.1)))
reads_i64 text (Err e) h =
    sym (cond-false _ _ _ (false_from_ne_true _ (λ t. let k = both _ _ t in h (test_digits _ k.0, i64_fits _ k.1))))

pub reads_i128 : {E : Type 0} (text : List ℕ) (r : Result ℤ E) → ParsesSigned w128 10 text r → result_ok r ≡ read_in i128 text
reads_i128 text (Ok z) h =
    ap Some h.1 ∙ sym (cond-true _ _ _ (and_from _ _ (digits_test _ h.0.0) (fits_i128 _ h.0.1)))
reads_i128 text (Err e) h =
    sym (cond-false _ _ _ (false_from_ne_true _ (λ t. let k = both _ _ t in h (test_digits _ k.0, i128_fits _ k.1))))

-- a text with a minus in front is no number without a sign
minus_first : (text : List ℕ) → slice_index text 0 ≡ 45 → AllDigits 10 text → 0 < length text → ⊥
minus_first [] e all some = omega (arith, some)
minus_first (d ∷ ds) e all some = let k = digit_from_value d all.0 in omega (arith, k.0, k.1, e)

-- what is read of a text, by whether a minus stands first
abbrev by_minus : IntegerKind → List ℕ → Bool → Option ℤ
by_minus kind text b =
    let ds : List ℕ = cond b (drop 1 text) (without_leading_plus text) in
    let z : ℤ = cond b (neg_ℤ (pos (digits_value 10 ds))) (pos (digits_value 10 ds)) in
    cond ((nat_lt 0 (length ds) && all_ascii_digits ds) && holds kind z) (Some z) None

module _ (kind : IntegerKind) (below : (n : ℕ) → holds kind (negsuc n) ≡ false) where
  -- a number that is not negative is an i64 or no number of the kind
  minus_unheld : (g : Bool) (n : ℕ) → cond (g && holds i64 (neg_ℤ (pos n))) (Some (neg_ℤ (pos n))) None ≡ None → (g && holds kind (neg_ℤ (pos n))) ≡ false
  minus_unheld false n none = refl
  minus_unheld true zero none = cc
  minus_unheld true (suc n) none = below n

module _ {E : Type 0} (kind : IntegerKind) (k : ℕ) (same : (n : ℕ) → holds kind (pos n) ≡ nat_lt n (2 ^ k)) (below : (n : ℕ)
    → holds kind (negsuc n) ≡ false) where
  plain : (ds : List ℕ) (r : Result ℕ E) → OkIff r (IsNumeral 10 ds × (digits_value 10 ds < 2 ^ k)) (digits_value 10 ds)
      → option_map (λ n. pos n) (result_ok r)
      ≡ cond ((nat_lt 0 (length ds) && all_ascii_digits ds) && holds kind (pos (digits_value 10 ds))) (Some (pos (digits_value 10 ds))) None
  plain ds (Ok n) h = ap (λ m. Some (pos m)) h.1 ∙ sym (cond-true _ _ _ (and_from _ _ (digits_test ds h.0.0) (same _ ∙ lt-ltb _ (2 ^ k) h.0.1)))
  plain ds (Err x) h = sym (cond-false _ _ _ (false_from_ne_true _ (λ t. let p =
      both _ _ t in h (test_digits ds p.0, ltb-true _ (2 ^ k) (sym (same _) ∙ p.1)))))

  minus : (text : List ℕ) (r : Result ℕ E) → slice_index text 0 ≡ 45 → ParsesUnsigned k 10 text r → by_minus i64 text true ≡ None
      → option_map (λ n. pos n) (result_ok r) ≡ by_minus kind text true
  minus text (Ok n) e h none =
      let bare = without_leading_plus_none text (λ p. omega (arith, p, e)) in
      let digits = subst (IsNumeral 10) bare h.0.0 in
      absurd (minus_first text e digits.1 digits.0)
  minus text (Err x) e h none = sym (cond-false _ _ _ (minus_unheld kind below _ _ none))

  by_sign : (text : List ℕ) (r : Result ℕ E) (b : Bool) → starts_with_minus text ≡ b → ParsesUnsigned k 10 text r → by_minus i64 text b ≡ None
      → option_map (λ n. pos n) (result_ok r) ≡ by_minus kind text b
  by_sign text r true e h none = minus text r (eqb-true _ 45 e) h none
  by_sign text r false e h none = plain (without_leading_plus text) r h

pub reads_u64 : {E : Type 0} (text : List ℕ) (r : Result ℕ E) → ParsesUnsigned 64 10 text r → read_in i64 text ≡ None
    → option_map (λ n. pos n) (result_ok r) ≡ read_in u64 text
reads_u64 text r h none = by_sign u64 64 (λ n. refl) (λ n. refl) text r (starts_with_minus text) refl h none

pub reads_u128 : {E : Type 0} (text : List ℕ) (r : Result ℕ E) → ParsesUnsigned 128 10 text r → read_in i64 text ≡ None
    → option_map (λ n. pos n) (result_ok r) ≡ read_in u128 text
reads_u128 text r h none = by_sign u128 128 (λ n. refl) (λ n. refl) text r (starts_with_minus text) refl h none
