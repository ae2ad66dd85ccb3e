-- Keys, however they are held.
use Rattle.std.specs.Prelude.{◌≡◌, ◌↔◌, IsTrue, List}
use Rattle.std.specs.Cmp.{IsEquivalence, eq_by_cmp_equiv}
use Rattle.std.specs.Ordering.{eq_by_cmp}
use Rattle.tera_meaning.proofs.KeyLaws.{form_total, key_is}
use Rattle.tera_meaning.specs.Form.{Form}
use Rattle.tera_meaning.specs.KeyMeaning.{KeyForm, key_meaning}
use Rattle.tera_meaning.specs.Pairs.{key_form_order, value_at}
use Rattle.tera.proofs.ManyPutLaws.{found_alike}

pub forms_equivalence : IsEquivalence (eq_by_cmp key_form_order)
forms_equivalence = eq_by_cmp_equiv form_total

pub forms_tie : (k l : KeyForm) → IsTrue (eq_by_cmp key_form_order k l) ↔ (key_meaning k ≡ key_meaning l)
forms_tie k l = key_is (key_meaning k) (key_meaning l)

pub forms_find_alike : (ps : List (KeyForm × Form)) (k l : KeyForm) → IsTrue (eq_by_cmp key_form_order k l)
    → value_at key_form_order ps k ≡ value_at key_form_order ps l
forms_find_alike ps k l tie = found_alike key_form_order form_total ps k l tie

pub ruleset laws = (form_total, forms_equivalence, forms_tie, forms_find_alike)
