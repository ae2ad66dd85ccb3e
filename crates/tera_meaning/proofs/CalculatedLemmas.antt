-- What is calculated of values is computed of their numbers, and what an operator computes is what it stands for.
use Rattle.std.specs.Prelude.{◌≡◌, ℤ, true, Some, Result, Ok}
use Rattle.std.proofs.Common.{rules}
use Rattle.tera_report.specs.Refusal.{Refusal, Operator}
use Rattle.tera_meaning.specs.Arithmetic.{and_then, each_ok, operand, computed, as_i128, calculated}
use Rattle.tera_meaning.specs.Form.{Form}
use Rattle.tera_meaning.specs.Integer.{is_small}
use Rattle.tera_meaning.specs.Read.{number_in}
use Rattle.tera_meaning.proofs.RefusalLaws.{given_by_both}

-- ---- a number that an i128 holds

-- ---- the number of an operand

pub operand_number : (v : Form) (a : ℤ) → operand v ≡ Ok a → (number_in v ≡ Some a) × (is_small a ≡ true)
operand_number v a e = search rules

given_each : {X Y : Type 0} (f : X → Y) (r : Result X Refusal) (y : Y) → each_ok f r ≡ Ok y → (x : X) × (r ≡ Ok x) × (y ≡ f x)
given_each f x1 y e = search rules

-- ---- what is calculated

pub by_operands : (operator : Operator) (v w x : Form) → calculated operator v w ≡ Ok x
    → (a b z : ℤ) × (operand v ≡ Ok a) × (operand w ≡ Ok b) × (computed operator a b ≡ Ok z) × (x ≡ as_i128 z)
by_operands operator v w x e =
    let (z, both, is) = given_each as_i128 (and_then (operand v) (λ a. and_then (operand w) (computed operator a))) x e in
    let (a, left, rest) = given_by_both (operand v) (λ a. and_then (operand w) (computed operator a)) z both in
    let (b, right, known) = given_by_both (operand w) (computed operator a) z rest in
    (a, b, z, left, right, known, is)

pub by_numbers : (operator : Operator) (v w x : Form) → calculated operator v w ≡ Ok x
    → (a b z : ℤ) × (number_in v ≡ Some a) × (number_in w ≡ Some b) × (computed operator a b ≡ Ok z) × (x ≡ as_i128 z)
by_numbers operator v w x e =
    let (a, b, z, left, right, known, is) = by_operands operator v w x e in
    (a, b, z, (operand_number v a left).0, (operand_number w b right).0, known, is)

-- ---- what is computed
