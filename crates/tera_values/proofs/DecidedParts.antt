-- The partial order of arrays, item by item.
use Rattle.std.specs.Prelude.{◌≡◌, ℕ, None, Option, Some, IfSome, zero, suc, min, List, [], ◌∷◌, length, refl}
use Rattle.std.proofs.Common.{sym, ◌∙◌, ap, arith, drop}
use Rattle.std.specs.Cmp.{nat_cmp_is}
use Rattle.std.specs.Ordering.{nat_cmp}
use Rattle.std.specs.declared.cmp.Ordering.{Ordering}
use Rattle.std.specs.declared.cmp.Ordering.TheVariants.{Greater}
use Rattle.tera_meaning.proofs.ChainedLaws.{less_nat}
use Rattle.tera_meaning.specs.Decided.{decided}
use Rattle.tera_meaning.specs.Form.{Form}
use Rattle.tera_meaning.specs.Meaning.{Meaning, meaning}
use Rattle.tera_meaning.specs.Order.{compare}
use Rattle.tera_meaning.proofs.DecidedLaws.{decided_agrees}
use Rattle.tera_meaning.specs.Tree.{array, items}
use Rattle.tera_values.proofs.PartsLaws.{nat_cmp_suc}

abbrev pub lists_decided : List Form → List Form → Option Ordering
lists_decided xs ys = decided (meaning (array (items xs))) (meaning (array (items ys)))

-- where one has ended the lengths decide
pub decided_ended : (xs ys : List Form) (n : ℕ) → n ≡ min (length xs) (length ys)
    → lists_decided (drop n xs) (drop n ys) ≡ Some (nat_cmp (length xs) (length ys))
decided_ended [] [] zero e = refl
decided_ended [] (y ∷ ys) zero e = ap Some (sym (less_nat 0 (length (y ∷ ys)) (omega arith)))
decided_ended (x ∷ xs) [] zero e = ap Some (nat_cmp_is (length (x ∷ xs)) 0 Greater (omega arith))
decided_ended (x ∷ xs) (y ∷ ys) zero e = absurd (omega arith)
decided_ended [] ys (suc n) e = absurd (omega arith)
decided_ended (x ∷ xs) [] (suc n) e = absurd (omega arith)
decided_ended (x ∷ xs) (y ∷ ys) (suc n) e = decided_ended xs ys n (omega arith) ∙ ap Some (nat_cmp_suc (length xs) (length ys))

-- what is decided is the order
pub agreed : (x y : Meaning) (answer : Option Ordering) → answer ≡ decided x y → IfSome answer (λ o. o ≡ compare x y)
agreed x y None e = tt
agreed x y (Some o) e = sym (decided_agrees x y o (sym e))
