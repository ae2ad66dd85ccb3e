-- What is joined of a value, by its kind.
use Rattle.std.specs.Prelude.{◌≡◌, ◌||◌, ℕ, true, false, List, Ok, Err, is_ok, is_some, refl}
use Rattle.std.proofs.Common.{ap, sym}
use Rattle.tera.specs.Form.{Form}
use Rattle.tera.specs.Lookup.{name_of}
use Rattle.tera.specs.Meaning.{layout}
use Rattle.tera.specs.Quoted.{Prints}
use Rattle.tera.specs.Read.{number_in, text_in, truth_in}
use Rattle.tera.specs.Tree.{undefined, none, truth, number, text, bytes, array, object}
use Rattle.tera_filters.specs.Texts.{joinable, not_joinable}

pub joinable_kinds : (v : Form) → is_ok (joinable v) ≡ (is_some (text_in v) || (is_some (number_in v) || is_some (truth_in v)))
joinable_kinds undefined = refl
joinable_kinds none = refl
joinable_kinds (truth b) = refl
joinable_kinds (number n) = refl
joinable_kinds (text t) = refl
joinable_kinds (bytes bs) = refl
joinable_kinds (array xs) = refl
joinable_kinds (object ps) = refl

pub not_joined : (v : Form) → is_ok (joinable v) ≡ false → joinable v ≡ Err (not_joinable (name_of v))
not_joined undefined is = refl
not_joined none is = refl
not_joined (truth b) is = absurd (cc)
not_joined (number n) is = absurd (cc)
not_joined (text t) is = absurd (cc)
not_joined (bytes bs) is = refl
not_joined (array xs) is = refl
not_joined (object ps) is = refl

pub prints_joinable : (v : Form) (written : List ℕ) → is_ok (joinable v) ≡ true → Prints (layout v) written → joinable v ≡ Ok written
prints_joinable undefined written is prints = absurd (cc)
prints_joinable none written is prints = absurd (cc)
prints_joinable (truth b) written is prints = ap (λ t. Ok t) (sym prints)
prints_joinable (number n) written is prints = ap (λ t. Ok t) (sym prints)
prints_joinable (text t) written is prints = ap (λ l. Ok l) (sym prints)
prints_joinable (bytes bs) written is prints = absurd (cc)
prints_joinable (array xs) written is prints = absurd (cc)
prints_joinable (object ps) written is prints = absurd (cc)
