-- What the checked operations of std answer, by whether an i128 holds the exact result.
use Rattle.std.specs.Prelude.{◌≡◌, ◌<◌, ◌^◌, ℤ, pos, negsuc, true, false, if◌then◌else◌, Option, Some, None, SomeIff, FitsSigned}
use Rattle.std.specs.Int.{w128}
use Rattle.std.proofs.Common.{sym, ◌∙◌, ap, arith, ltb-true, lt-ltb}
use Rattle.std.proofs.{lemmas.Bool.cond-true, lemmas.Bool.cond-false, lemmas.Bool.false_from_ne_true, lemmas.Option.cond_some}
use Rattle.tera_meaning.specs.{Arithmetic.small, Integer.is_small}

small_fits : (z : ℤ) → is_small z ≡ true → FitsSigned w128 z
small_fits (pos n) h = let less : n < 2 ^ 127 = ltb-true n (2 ^ 127) h in record { sfits = omega arith }
small_fits (negsuc n) h = let less : n < 2 ^ 127 = ltb-true n (2 ^ 127) h in record { sfits = omega arith }

fits_small : (z : ℤ) → FitsSigned w128 z → is_small z ≡ true
fits_small (pos n) h = lt-ltb n (2 ^ 127) h.sfits
fits_small (negsuc n) h = lt-ltb n (2 ^ 127) h.sfits

-- an answer that is there exactly where the result fits is the result where it is small
pub checked_is_small : (o : Option ℤ) (z : ℤ) → SomeIff o (FitsSigned w128 z) z → o ≡ small z
checked_is_small None z h = sym (cond-false (is_small z) (Some z) None (false_from_ne_true _ (λ e. h (small_fits z e))))
checked_is_small (Some y) z h = ap Some h.1 ∙ sym (cond-true (is_small z) (Some z) None (fits_small z h.0))

-- no answer is there where the number is not small, and an answer that is there is the number
pub not_small : (z : ℤ) → None ≡ small z → is_small z ≡ false
not_small z h = false_from_ne_true _ (λ e. let wrong : None ≡ Some z = h ∙ ap (λ b. if b then Some z else None) e in cc)

pub none_is_small : (z : ℤ) → is_small z ≡ false → None ≡ small z
none_is_small z h = ap (λ b. if b then Some z else None) (sym h)

pub found_small : (y z : ℤ) → Some y ≡ small z → (y ≡ z) × FitsSigned w128 y
found_small y z h =
    let (is, same) = cond_some (is_small z) z y (sym h) in
    (sym same, small_fits y (ap is_small (sym same) ∙ is))
