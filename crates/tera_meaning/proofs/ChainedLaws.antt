-- One answer and then another, in the laws of an order.
use Rattle.std.specs.Prelude.{◌≡◌, ℕ, ◌<◌}
use Rattle.std.proofs.Common.{rules}
use Rattle.std.specs.Ordering.{ordering_then, ordering_reverse, nat_cmp}
use Rattle.std.specs.declared.cmp.Ordering.{Ordering}
use Rattle.std.specs.declared.cmp.Ordering.TheVariants.{Less, Equal, Greater}

pub first_equal : (r s : Ordering) → ordering_then r s ≡ Equal → r ≡ Equal
first_equal x0 s e = search rules

pub second_equal : (r s : Ordering) → ordering_then r s ≡ Equal → s ≡ Equal
second_equal x0 s e = search rules

pub reverse_then : (r s : Ordering) → ordering_then (ordering_reverse r) (ordering_reverse s) ≡ ordering_reverse (ordering_then r s)
reverse_then x0 s = search rules

pub then_nested : (r s t : Ordering) → ordering_then r (ordering_then s t) ≡ ordering_then (ordering_then r s) t
then_nested x0 s t = search rules

-- r, s and t are how x and y, y and z, x and z compare first; and r', s' and t' how they compare then
pub chain_then : (r s t r' s' t' : Ordering) → (r ≡ Less → s ≡ Less → t ≡ Less) → (r ≡ Equal → t ≡ s) → (s ≡ Equal → t ≡ r)
    → (r' ≡ Less → s' ≡ Less → t' ≡ Less) → ordering_then r r' ≡ Less → ordering_then s s' ≡ Less → ordering_then t t' ≡ Less
chain_then x0 s t r' s' t' chain left right rest p q = search rules

-- no answer is another
pub equal_less : Equal ≡ Less → ⊥
equal_less e = cc

pub greater_less : Greater ≡ Less → ⊥
greater_less e = cc

pub nat_less : (m n : ℕ) → nat_cmp m n ≡ Less → m < n
nat_less m n e = search rules

pub less_nat : (m n : ℕ) → m < n → nat_cmp m n ≡ Less
less_nat m n h = search rules
