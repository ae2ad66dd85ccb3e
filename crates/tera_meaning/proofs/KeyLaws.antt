-- The order of keys is total, and ties equal keys alone.
use Rattle.std.specs.Prelude.{◌≡◌, Bool, ◌↔◌, IsTrue}
use Rattle.std.proofs.Common.{sym, ◌∙◌, ap, rules}
use Rattle.std.specs.Ordering.{ordering_reverse, bool_cmp, eq_by_cmp, as_partial_cmp}
use Rattle.std.specs.declared.cmp.Ordering.TheVariants.{Less, Equal}
use Rattle.std.specs.Cmp.{IsTotalOrder, IsEquivalence, IsPartialOrder, partial_order_from_total, int_cmp_total, bool_cmp_total, on_total}
use Rattle.std.specs.Cmp.Lexicographic.{nat_list_cmp_total}
use Rattle.std.specs.FinMap.{nat_cmp-IsAntisymmetric, int_cmp-IsAntisymmetric, slice_cmp-IsAntisymmetric}
use Rattle.tera_meaning.specs.KeyMeaning.{KeyMeaning, key_order, key_meaning}
use Rattle.tera_meaning.specs.Pairs.{key_form_order}

pub truth_exact : (a b : Bool) → bool_cmp a b ≡ Equal → a ≡ b
truth_exact x0 x1 e = search rules

pub key_exact : (k l : KeyMeaning) → key_order k l ≡ Equal → k ≡ l
key_exact k l e = search (rules, int_cmp-IsAntisymmetric, slice_cmp-IsAntisymmetric, nat_cmp-IsAntisymmetric)

key_reversed : (k l : KeyMeaning) → key_order k l ≡ ordering_reverse (key_order l k)
key_reversed k l = search (rules, bool_cmp_total, int_cmp_total, nat_list_cmp_total)

key_chain : (k l m : KeyMeaning) → key_order k l ≡ Less → key_order l m ≡ Less → key_order k m ≡ Less
key_chain k l m p q = search (rules, bool_cmp_total, int_cmp_total, nat_list_cmp_total)

pub key_total : IsTotalOrder key_order
key_total = record {
  antisymm = key_reversed;
  trans = key_chain;
  congr = λ k l m e. ap (λ j. key_order j m) (key_exact k l e);
}

pub form_total : IsTotalOrder key_form_order
form_total = on_total key_meaning key_total

pub key_same : (k : KeyMeaning) → key_order k k ≡ Equal
key_same k = search (rules, key_total)

-- two keys are equal where the order ties them
pub key_equivalence : IsEquivalence (eq_by_cmp key_order)
key_equivalence = search (rules, key_total)

pub key_partial : IsPartialOrder (eq_by_cmp key_order) (as_partial_cmp key_order)
key_partial = partial_order_from_total key_total

pub key_is : (k l : KeyMeaning) → IsTrue (eq_by_cmp key_order k l) ↔ (k ≡ l)
key_is k l = search (rules, key_exact, key_same)

pub key_tie : (k l : KeyMeaning) → (key_order k l ≡ Equal) ↔ (k ≡ l)
key_tie k l = (key_exact k l, λ e. ap (λ w. key_order k w) (sym e) ∙ key_same k)

pub ruleset laws = (key_tie, key_is, key_equivalence)
