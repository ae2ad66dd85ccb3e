-- What `parse` reads is a place.
use Rattle.std.specs.Prelude.{◌≡◌, ℕ, ◌^◌, ◌<◌, ◌==◌, ◌&&◌, nat_lt, Bool, true, false, if◌then◌else◌, cond, List, [], ◌∷◌, length, drop, Some, None, Result, Ok}
use Rattle.std.specs.Prelude.{Err, OkIff, refl}
use Rattle.std.specs.Str.Parse.{AllDigits, IsNumeral, digits_value, without_leading_plus, ParsesUnsigned}
use Rattle.std.specs.{Char.is_ascii_digit, Char.digit_value, Str.all_ascii_digits, Result.result_ok}
use Rattle.std.proofs.Common.{Decides, ap, subst, arith}
use Rattle.std.proofs.lemmas.Bool.Decides.{Decides-and, Decides-like, Decides-ltb, nat_tests}
use Rattle.std.proofs.lemmas.Str.Parse.{digit_from_value}
use Rattle.tera_meaning.specs.{Path.place, Path.without_plus, Read.is_nonempty}

same_front : (bs : List ℕ) → without_leading_plus bs ≡ without_plus bs
same_front [] = refl
same_front (b ∷ bs) = elim (b == 43) as (λ t. drop (cond t 1 0) (b ∷ bs) ≡ (if t then bs else b ∷ bs)) [ true ↦ refl | false ↦ refl ]

is_digit : (b : ℕ) → Decides (is_ascii_digit b) (digit_value b < 10)
is_digit b = ((λ e. grind (arith, nat_tests)), (λ h. let r = digit_from_value b h in grind (arith, nat_tests)))

are_digits : (ds : List ℕ) → Decides (all_ascii_digits ds) (AllDigits 10 ds)
are_digits [] = ((λ e. tt), (λ h. refl))
are_digits (d ∷ ds) = Decides-and _ _ (is_digit d) (are_digits ds)

is_there : (ds : List ℕ) → Decides (is_nonempty ds) (0 < length ds)
is_there [] = ((λ e. absurd (cc)), (λ h. absurd (omega arith)))
is_there (d ∷ ds) = ((λ e. omega arith), (λ h. refl))

-- a numeral below 2^64 is a place, and nothing else is
is_place : (ds : List ℕ)
    → Decides (is_nonempty ds && (all_ascii_digits ds && nat_lt (digits_value 10 ds) (2 ^ 64))) (IsNumeral 10 ds × (digits_value 10 ds < 2 ^ 64))
is_place ds =
    Decides-like _ (λ h. ((h.0, h.1.0), h.1.1)) (λ h. (h.0.0, (h.0.1, h.1)))
    (Decides-and _ _ (is_there ds) (Decides-and _ _ (are_digits ds) (Decides-ltb (digits_value 10 ds) (2 ^ 64))))

-- an answer that is there exactly where a test passes
tested : {X E : Type 0} (r : Result X E) (P : Type 0) (t : Bool) (x : X) → OkIff r P x → Decides t P → result_ok r ≡ (if t then Some x else None)
tested (Ok y) P true x h d = ap Some h.1
tested (Ok y) P false x h d = absurd (let e = d.1 h.0 in cc)
tested (Err e) P true x h d = absurd (h (d.0 refl))
tested (Err e) P false x h d = refl

pub parsed_place : {E : Type 0} (bs : List ℕ) (r : Result ℕ E) → ParsesUnsigned 64 10 bs r → result_ok r ≡ place bs
parsed_place bs r h =
    tested r _ _ _ (subst (λ ds. OkIff r (IsNumeral 10 ds × (digits_value 10 ds < 2 ^ 64)) (digits_value 10 ds)) (same_front bs) h)
    (is_place (without_plus bs))
