-- A number has one quotient and one remainder by each other number than 0.
use Rattle.std.specs.Prelude.{◌≡◌, ◌<◌, ◌*◌, ℕ, zero, suc, ℤ, pos, negsuc, ◌+ℤ◌, ◌-ℤ◌, ◌*ℤ◌, ◌≤ℤ◌, ◌<ℤ◌, unsigned_abs}
use Rattle.std.proofs.Common.{sym, ◌∙◌, ap, subst, arith, rules}
use Rattle.std.proofs.lemmas.Int.{ints, unsigned_abs-mul}
use Rattle.std.proofs.Math.IntN.{suc_ℤ, pred_ℤ, suc_ℤ-+ℤ, pred_ℤ-+ℤ, suc_ℤ-*ℤ, pred_ℤ-*ℤ, *ℤ_comm}
use Rattle.tera_meaning.specs.Arithmetic.{IsDivided}

-- a sum times a number is the sum of the products
moved_up : (x y z : ℤ) → (x +ℤ y) +ℤ z ≡ (x +ℤ z) +ℤ y
moved_up x y z = omega (arith, ints)

moved_down : (x y z : ℤ) → (x +ℤ y) -ℤ z ≡ (x -ℤ z) +ℤ y
moved_down x y z = omega (arith, ints)

module _ (y z : ℤ) where
  up : (x : ℤ) → (x +ℤ y) *ℤ z ≡ x *ℤ z +ℤ y *ℤ z → (suc_ℤ x +ℤ y) *ℤ z ≡ suc_ℤ x *ℤ z +ℤ y *ℤ z
  up x h = search (rules, suc_ℤ-+ℤ, suc_ℤ-*ℤ, moved_up)

  down : (x : ℤ) → (x +ℤ y) *ℤ z ≡ x *ℤ z +ℤ y *ℤ z → (pred_ℤ x +ℤ y) *ℤ z ≡ pred_ℤ x *ℤ z +ℤ y *ℤ z
  down x h = search (rules, pred_ℤ-+ℤ, pred_ℤ-*ℤ, moved_down)

  none_times : (pos 0 +ℤ y) *ℤ z ≡ pos 0 *ℤ z +ℤ y *ℤ z
  none_times = search rules

  pub sum_times : (x : ℤ) → (x +ℤ y) *ℤ z ≡ x *ℤ z +ℤ y *ℤ z
  sum_times (pos zero) = none_times
  sum_times (pos (suc n)) = up (pos n) (sum_times (pos n))
  sum_times (negsuc zero) = down (pos 0) none_times
  sum_times (negsuc (suc n)) = down (negsuc n) (sum_times (negsuc n))

-- two numbers from 0 up to a bound are less than the bound apart
apart : (r s : ℤ) (n : ℕ) → pos 0 ≤ℤ r → r <ℤ pos n → pos 0 ≤ℤ s → s <ℤ pos n → unsigned_abs (s -ℤ r) < n
apart r s n h g k l = omega (arith, ints)

none_left : (n d : ℕ) → n * d < n → d ≡ 0
none_left n x1 h = search rules

no_distance : (d : ℤ) → unsigned_abs d ≡ 0 → d ≡ pos 0
no_distance x0 h = search rules

module _ (a b q r p s : ℤ) (one : IsDivided a b q r) (other : IsDivided a b p s) where
  distance : b *ℤ (q -ℤ p) ≡ s -ℤ r
  distance =
      let split : ((q -ℤ p) +ℤ p) *ℤ b ≡ (q -ℤ p) *ℤ b +ℤ p *ℤ b = sum_times p b (q -ℤ p) in
      let whole : (q -ℤ p) +ℤ p ≡ q = omega (arith, ints) in
      let first : q *ℤ b ≡ (q -ℤ p) *ℤ b +ℤ p *ℤ b = sym (ap (λ x. x *ℤ b) whole) ∙ split in
      let d : b *ℤ (q -ℤ p) ≡ (q -ℤ p) *ℤ b = *ℤ_comm b (q -ℤ p) in
      let e : b *ℤ q ≡ q *ℤ b = *ℤ_comm b q in
      let f : b *ℤ p ≡ p *ℤ b = *ℤ_comm b p in
      let g : a ≡ b *ℤ q +ℤ r = one.whole in
      let h : a ≡ b *ℤ p +ℤ s = other.whole in
      omega (arith, ints)

  pub same_quotient : q ≡ p
  same_quotient =
      let size : unsigned_abs b * unsigned_abs (q -ℤ p) < unsigned_abs b =
      subst (λ n. n < unsigned_abs b) (ap unsigned_abs (sym distance) ∙ unsigned_abs-mul b (q -ℤ p))
      (apart r s (unsigned_abs b) one.least one.most other.least other.most) in
      let none : q -ℤ p ≡ pos 0 = no_distance (q -ℤ p) (none_left (unsigned_abs b) (unsigned_abs (q -ℤ p)) size) in
      omega (arith, ints)

  pub same_remainder : r ≡ s
  same_remainder = search (rules, same_quotient)
