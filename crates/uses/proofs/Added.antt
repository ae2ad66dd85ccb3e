-- Numbers that are added up, one after another.
use Rattle.std.specs.Prelude.{◌≡◌, ◌↔◌, ◌≤◌, ℕ, ℤ, drop, length, pos, ◌+ℤ◌, IsTrue, List, [], ◌∷◌, Some, Ok}
use Rattle.std.proofs.Common.{ap, ◌∙◌, sym, subst, arith}
use Rattle.std.proofs.lemmas.Int.{ints}
use Rattle.std.proofs.lemmas.List.{drop_all}
use Rattle.tera.proofs.RefusalLaws.{given_by_both}
use Rattle.tera.specs.Arithmetic.{as_i128, calculated, computed}
use Rattle.tera.specs.Form.{Form}
use Rattle.tera.specs.Integer.{is_small}
use Rattle.tera.specs.Read.{number_in}
use Rattle.tera.specs.Refusal.{Operator, plus}
use Rattle.uses.specs.Sums.{AreNumbersOf, added_up, nothing_yet, sum_of}

-- by the laws of what is calculated and computed, what is added up from a number on is that and the sum of the others
module _ (given : (operator : Operator) (v w x : Form) → calculated operator v w ≡ Ok x
    → (a b z : ℤ) × (number_in v ≡ Some a) × (number_in w ≡ Some b) × (computed operator a b ≡ Ok z) × (x ≡ as_i128 z))
    (plain : (a b z : ℤ) → (computed plus a b ≡ Ok z) ↔ ((z ≡ a +ℤ b) × IsTrue (is_small z))) where
  pub numbers_added : (vs : List Form) (a : ℤ) (sum : Form) → added_up (as_i128 a) vs ≡ Ok sum
      → (zs : List ℤ) × AreNumbersOf vs zs × (sum ≡ as_i128 (a +ℤ sum_of zs))
  numbers_added [] a sum is =
      let none : a ≡ a +ℤ pos 0 = omega (arith, ints) in
      let same : sum ≡ as_i128 a = cc in
      ([], tt, same ∙ ap as_i128 none)
  numbers_added (v ∷ vs) a sum is =
      let (next, first, rest) = given_by_both (calculated plus (as_i128 a) v) (λ s. added_up s vs) sum is in
      let (x, b, z, left, right, known, held) = given plus (as_i128 a) v next first in
      let same : a ≡ x = cc in
      let adds : z ≡ x +ℤ b = ((plain x b z).0 known).0 in
      let (zs, are, total) = numbers_added vs z sum (subst (λ (s : Form). added_up s vs ≡ Ok sum) held rest) in
      let whole : z +ℤ sum_of zs ≡ a +ℤ (b +ℤ sum_of zs) = omega (arith, ints) in
      (b ∷ zs, (right, are), total ∙ ap as_i128 whole)

  -- no number is left
  pub all_added : (vs : List Form) (i : ℕ) (sum : Form) → length vs ≤ i → added_up sum (drop i vs) ≡ added_up nothing_yet vs
      → (zs : List ℤ) × AreNumbersOf vs zs × (sum ≡ as_i128 (sum_of zs))
  all_added vs i sum past so =
      let (zs, are, total) = numbers_added vs (pos 0) sum (sym so ∙ ap (added_up sum) (drop_all i vs past)) in
      let whole : pos 0 +ℤ sum_of zs ≡ sum_of zs = omega (arith, ints) in
      (zs, are, total ∙ ap as_i128 whole)
