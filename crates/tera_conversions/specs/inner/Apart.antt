-- Keys that are equal are one key.
use Rattle.std.specs.Prelude.{◌≡◌, true}
use Rattle.std.specs.Ordering.{eq_by_cmp, is_eq}
use Rattle.std.proofs.Common.{sym, ◌∙◌, ap, subst}
use Rattle.tera_meaning.proofs.KeyLaws.{key_same}
use Rattle.tera_meaning.specs.KeyMeaning.{KeyForm, key_meaning, key_order}
use Rattle.tera_values.specs.Key.{key_form, meaning_of_key}
use Rattle.tera_values.specs.declared.key.Key.{Key}

pub key_apart : (a b : Key) (j k : KeyForm) → j ≡ key_form a → k ≡ key_form b → key_meaning j
    ≡ key_meaning k
    → eq_by_cmp key_order (meaning_of_key a) (meaning_of_key b) ≡ true
key_apart a b j k is_j is_k same =
    let one : meaning_of_key a ≡ meaning_of_key b = ap key_meaning (sym is_j)
    ∙ (same ∙ ap key_meaning is_k)
    in subst (λ m. eq_by_cmp key_order (meaning_of_key a) m ≡ true) one
    (ap is_eq (key_same (meaning_of_key a)))
