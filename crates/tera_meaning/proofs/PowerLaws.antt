-- Powers as products of halves, and how large they are.
use Rattle.std.specs.Prelude.{◌≡◌, ◌<◌, ◌≤◌, ◌+◌, ◌*◌, ◌/◌, ◌%◌, ◌^◌, ℕ, zero, suc, ℤ, pos, negsuc, ◌+ℤ◌, ◌-ℤ◌, ◌*ℤ◌, unsigned_abs, false}
use Rattle.std.proofs.Common.{sym, ◌∙◌, ap, arith, mul-le-mul, zero-add, suc-add, mod-lt, zero-lt-suc, pow-suc, pow_mono, rules}
use Rattle.std.proofs.lemmas.Int.{ints, unsigned_abs-mul}
use Rattle.std.proofs.Math.IntN.{suc_ℤ, pred_ℤ, suc_ℤ-*ℤ, pred_ℤ-*ℤ}
use Rattle.tera_meaning.specs.Arithmetic.{power_of}
use Rattle.tera_meaning.specs.Integer.{is_small}
use Rattle.tera_meaning.proofs.DivisionLemmas.{sum_times}
use Rattle.std.proofs.lemmas.Grind.{common_steps}

-- ---- products of three

module _ (y z : ℤ) where
  up : (x : ℤ) → (x *ℤ y) *ℤ z ≡ x *ℤ (y *ℤ z) → (suc_ℤ x *ℤ y) *ℤ z ≡ suc_ℤ x *ℤ (y *ℤ z)
  up x h = search (rules, suc_ℤ-*ℤ, sum_times)

  less_times : (x : ℤ) → (x -ℤ y) *ℤ z ≡ x *ℤ z -ℤ y *ℤ z
  less_times x =
      let back : ((x -ℤ y) +ℤ y) *ℤ z ≡ (x -ℤ y) *ℤ z +ℤ y *ℤ z = sum_times y z (x -ℤ y) in
      let whole : (x -ℤ y) +ℤ y ≡ x = omega (arith, ints) in
      let same : x *ℤ z ≡ (x -ℤ y) *ℤ z +ℤ y *ℤ z = sym (ap (λ s. s *ℤ z) whole) ∙ back in
      omega (arith, ints)

  down : (x : ℤ) → (x *ℤ y) *ℤ z ≡ x *ℤ (y *ℤ z) → (pred_ℤ x *ℤ y) *ℤ z ≡ pred_ℤ x *ℤ (y *ℤ z)
  down x h = search (rules, pred_ℤ-*ℤ, less_times)

  none_times : (pos 0 *ℤ y) *ℤ z ≡ pos 0 *ℤ (y *ℤ z)
  none_times = search rules

  times_assoc : (x : ℤ) → (x *ℤ y) *ℤ z ≡ x *ℤ (y *ℤ z)
  times_assoc (pos zero) = none_times
  times_assoc (pos (suc n)) = up (pos n) (times_assoc (pos n))
  times_assoc (negsuc zero) = down (pos 0) none_times
  times_assoc (negsuc (suc n)) = down (negsuc n) (times_assoc (negsuc n))

one_times : (x : ℤ) → pos 1 *ℤ x ≡ x
one_times x = search rules

-- ---- powers

-- the factors of a power, some and then the others
pub power_add : (base : ℤ) (m n : ℕ) → power_of base (m + n) ≡ power_of base m *ℤ power_of base n
unfolding power_of
power_add base zero n = ap (power_of base) (zero-add n) ∙ sym (one_times (power_of base n))
power_add base (suc m) n = search (rules, suc-add, times_assoc, (power_add base m n))

half_and_half : (e : ℕ) → (e / 2 + e / 2) + e % 2 ≡ e
half_and_half e = omega arith

pub power_halves : (base : ℤ) (e : ℕ)
    → power_of base e ≡ (power_of base (e / 2) *ℤ power_of base (e / 2)) *ℤ power_of base (e % 2)
power_halves base e = search (rules, half_and_half, power_add)

pub power_none : (base : ℤ) → power_of base 0 ≡ pos 1
unfolding power_of
power_none base = search rules

pub power_more : (base : ℤ) (n : ℕ) → power_of base (suc n) ≡ base *ℤ power_of base n
unfolding power_of
power_more base n = search rules

pub power_once : (base : ℤ) → power_of base 1 ≡ base
power_once base = search (rules, power_more, power_none)

-- ---- sizes

-- a number that is not small is this large at least, and a larger one is not small
large_size : (z : ℤ) → is_small z ≡ false → 2 ^ 127 ≤ unsigned_abs z
large_size x0 h = search rules

size_large : (z : ℤ) → 2 ^ 127 < unsigned_abs z → is_small z ≡ false
size_large x0 h = search rules

-- the size of a power of a number that is at most 1 in size
size_of_one : (base : ℤ) (n : ℕ) → unsigned_abs base ≤ 1 → unsigned_abs (power_of base n) ≤ 1
size_of_one base zero h = let e : unsigned_abs (power_of base 0) ≡ 1 = ap unsigned_abs (power_none base) in omega arith
size_of_one base (suc n) h = search (rules, power_more, unsigned_abs-mul, mul-le-mul, (size_of_one base n h))

-- the last factor of an odd power, or none, is no smaller than 1 where the base is larger than 1
rest_size : (base : ℤ) (e : ℕ) → 1 < unsigned_abs base → 1 ≤ unsigned_abs (power_of base (e % 2))
rest_size base e h = by (e % 2) (mod-lt e (zero-lt-suc 1))
  where
    by : (k : ℕ) → k < 2 → 1 ≤ unsigned_abs (power_of base k)
    by zero less = let e : unsigned_abs (power_of base 0) ≡ 1 = ap unsigned_abs (power_none base) in omega arith
    by (suc zero) less = let e : unsigned_abs (power_of base 1) ≡ unsigned_abs base = ap unsigned_abs (power_once base) in omega arith
    by (suc (suc k)) less = absurd (omega arith)

larger_base : (base : ℤ) (n : ℕ) → 1 < unsigned_abs (power_of base n) → 1 < unsigned_abs base
larger_base base n h = search (rules, size_of_one)

size_halves : (base : ℤ) (e : ℕ) → unsigned_abs (power_of base e)
    ≡ (unsigned_abs (power_of base (e / 2)) * unsigned_abs (power_of base (e / 2))) * unsigned_abs (power_of base (e % 2))
size_halves base e = search (rules, power_halves, unsigned_abs-mul)

-- where the half of a power is not small the power is not
pub large_half : (base : ℤ) (e : ℕ) → is_small (power_of base (e / 2)) ≡ false → is_small (power_of base e) ≡ false
large_half base e h =
    let least : 2 ^ 127 ≤ unsigned_abs (power_of base (e / 2)) = large_size (power_of base (e / 2)) h in
    let two : 2 ≤ unsigned_abs (power_of base (e / 2)) = omega (arith, least) in
    let base_size : 1 < unsigned_abs base = larger_base base (e / 2) (omega (arith, least)) in
    let rest : 1 ≤ unsigned_abs (power_of base (e % 2)) = rest_size base e base_size in
    let square : 2 * 2 ^ 127 ≤ unsigned_abs (power_of base (e / 2)) * unsigned_abs (power_of base (e / 2)) =
    mul-le-mul two least in
    let whole : (2 * 2 ^ 127) * 1 ≤ (unsigned_abs (power_of base (e / 2)) * unsigned_abs (power_of base (e / 2))) * unsigned_abs (power_of base (e % 2)) =
    mul-le-mul square rest in
    let size : unsigned_abs (power_of base e) ≡ (unsigned_abs (power_of base (e / 2)) * unsigned_abs (power_of base (e / 2))) * unsigned_abs
    (power_of base (e % 2)) = size_halves base e in
    size_large (power_of base e) (omega (arith, whole, size))

-- what an even power is, and an odd one
pub even_power : (base : ℤ) (e : ℕ) → e % 2 ≡ 0 → power_of base e ≡ power_of base (e / 2) *ℤ power_of base (e / 2)
even_power base e h = search (rules, power_halves, power_none)

pub odd_power : (base : ℤ) (e : ℕ) → e % 2 ≡ 1 → power_of base e ≡ (power_of base (e / 2) *ℤ power_of base (e / 2)) *ℤ base
odd_power base e h = search (rules, power_halves, power_once)

-- where the square of the half of an odd power is not small the power is not
large_odd_power : (base : ℤ) (e : ℕ) → e % 2 ≡ 1 → is_small (power_of base (e / 2) *ℤ power_of base (e / 2)) ≡ false
    → is_small (power_of base e) ≡ false
large_odd_power base e odd h = grind (arith, common_steps, large_size, unsigned_abs-mul, larger_base, odd_power, mul-le-mul, size_large)

-- where the square of the half of a power is not small the power is not
pub large_square : (base : ℤ) (e : ℕ) → is_small (power_of base (e / 2) *ℤ power_of base (e / 2)) ≡ false
    → is_small (power_of base e) ≡ false
large_square base e h = search (rules, even_power, large_odd_power)

-- ---- powers too large to compute

-- of a base of 2 or more in size, a power of 128 factors or more
pub large_power : (base : ℤ) (n : ℕ) → 1 < unsigned_abs base → 2 ^ n ≤ unsigned_abs (power_of base n)
large_power base zero h = let e : unsigned_abs (power_of base 0) ≡ 1 = ap unsigned_abs (power_none base) in omega (arith, e)
large_power base (suc n) h = search (rules, power_more, unsigned_abs-mul, mul-le-mul, pow-suc, (large_power base n h))

pub power_outside : (base : ℤ) (n : ℕ) → 1 < unsigned_abs base → 128 ≤ n → is_small (power_of base n) ≡ false
power_outside base n h g =
    let least : 2 ^ n ≤ unsigned_abs (power_of base n) = large_power base n h in
    let more : 2 ^ 128 ≤ 2 ^ n = pow_mono g in
    size_large (power_of base n) (omega (arith, least, more))

pub power_of_one : (n : ℕ) → power_of (pos 1) n ≡ pos 1
power_of_one zero = power_none (pos 1)
power_of_one (suc n) = power_more (pos 1) n ∙ one_times (power_of (pos 1) n) ∙ power_of_one n
