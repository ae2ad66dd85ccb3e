-- Pairs are printed one after another.
use Rattle.std.specs.Prelude.{◌≡◌, ℕ, List, ◌∷◌, ◌++◌, codes}
use Rattle.std.proofs.Common.{sym, ap, subst}
use Rattle.tera_meaning.specs.Form.{Form}
use Rattle.tera_meaning.specs.KeyMeaning.{KeyForm}
use Rattle.tera_values.specs.Print.{PrintsPair, PrintsPairs, PrintsLaterPairs}

-- a pair, and then what is printed of those behind it
pub first_pair_leads : (all others : List (KeyForm × Form)) (p : KeyForm × Form) (written : List ℕ) → all ≡ p ∷ others
    → PrintsPair p.0 p.1 written → (rest : List ℕ) → PrintsLaterPairs others rest → PrintsPairs all (written ++ rest)
first_pair_leads all others p written is (key, value, named, shown, joined) rest more =
    subst (λ l. PrintsPairs l (written ++ rest)) (sym is)
    (key, value, rest, named, shown, more, ap (λ l. l ++ rest) joined)

-- the same behind others
pub next_pair_leads : (left others : List (KeyForm × Form)) (p : KeyForm × Form) (written : List ℕ) → left ≡ p ∷ others
    → PrintsPair p.0 p.1 written → (rest : List ℕ) → PrintsLaterPairs others rest → PrintsLaterPairs left (codes ", " ++ (written ++ rest))
next_pair_leads left others p written is (key, value, named, shown, joined) rest more =
    subst (λ l. PrintsLaterPairs l (codes ", " ++ (written ++ rest))) (sym is)
    (key, value, rest, named, shown, more, ap (λ l. codes ", " ++ (l ++ rest)) joined)
