-- Byte strings: what the reader of digits gives is spelled so, and what is spelled so is read.
use Rattle.std.proofs.Common.{◌≡◌, ◌<◌, ◌+◌, ℕ, List, [], ◌∷◌, ◌++◌, Some, refl, ap, sym, ◌∙◌, ◌⊎◌, inl, inr, arith, subst}
use Rattle.std.specs.Char.{digit_value}
use Rattle.std.proofs.lemmas.Bool.Decides.{nat_tests}
use Rattle.tera_script.specs.Literal.{SpellsBytes}
use Rattle.tera_script.specs.Readers.{behind, byte_of, hex_at}
use Rattle.tera_script.proofs.Fronts.{behind_both, behind_found}

two_digits : (high low : ℕ) (rest : List ℕ) → digit_value high < 16 → digit_value low < 16 → hex_at (high ∷ low ∷ rest)
    ≡ behind (byte_of high low ∷ []) (hex_at rest)
unfolding hex_at
two_digits high low rest h l = grind (arith, nat_tests)

pub hex_more : (xs rest more others : List ℕ) (high low b : ℕ) → rest ≡ high ∷ more → more ≡ low ∷ others
    → (digit_value high < 16) × (digit_value low < 16) → b ≡ byte_of high low
    → behind (xs ++ b ∷ []) (hex_at others) ≡ behind xs (hex_at rest)
hex_more xs rest more others high low b e f digits is =
    rw (e, f, two_digits high low others digits.0 digits.1, is) (sym (behind_both xs (byte_of high low ∷ []) (hex_at others)))

pub hex_closed : (rest : List ℕ) → hex_at (34 ∷ rest) ≡ Some ([], rest)
unfolding hex_at
hex_closed [] = refl
hex_closed (b ∷ rest) = refl

-- digits up to a closing quote stand before the rest
pub record HasBytes (xs bs rest : List ℕ) : Type 0 where
  pub digits : List ℕ
  pub spells : SpellsBytes digits bs
  pub spelled : xs ≡ digits ++ 34 ∷ rest

pub hex_only : (bs digits rest : List ℕ) → SpellsBytes digits bs → hex_at (digits ++ 34 ∷ rest) ≡ Some (bs, rest)
hex_only [] digits rest h = rw h (hex_closed rest)
hex_only (b ∷ bs) digits rest h = rw (h.7) (two_digits h.0 h.1 (h.2 ++ 34 ∷ rest) h.3 h.4 ∙ ap (behind (byte_of h.0 h.1 ∷ [])) (hex_only bs h.2 rest h.6)
    ∙ ap (λ c. Some (c ∷ bs, rest)) (sym h.5))

quoted_end : {b : ℕ} {ys bs rest : List ℕ} → b ≡ 34 → bs ≡ [] → ys ≡ rest → HasBytes (b ∷ ys) bs rest
quoted_end q none same = record { digits = []; spells = rw none refl; spelled = λ i. q i ∷ same i }

pub hex_found : (xs bs rest : List ℕ) → hex_at xs ≡ Some (bs, rest) → HasBytes xs bs rest
unfolding hex_at
hex_found [] bs rest e = cc
hex_found (b ∷ []) bs rest e = let h : (b ≡ 34) × (bs ≡ []) × ([] ≡ rest) = grind (arith, nat_tests) in quoted_end h.0 h.1 h.2
hex_found (high ∷ low ∷ xs) bs rest e =
    let h : ((high ≡ 34) × (bs ≡ []) × (low ∷ xs ≡ rest))
    ⊎ ((digit_value high < 16) × (digit_value low < 16) × (behind (byte_of high low ∷ []) (hex_at xs) ≡ Some (bs, rest))) = grind (arith, nat_tests) in
    elim h [
      | inl h ↦ quoted_end h.0 h.1 h.2
      | inr h ↦
          let found = behind_found (byte_of high low ∷ []) (hex_at xs) bs rest h.2 in
          let more = hex_found xs found.0 rest found.1 in
          record {
            digits = high ∷ low ∷ more.digits;
            spells = subst (SpellsBytes (high ∷ low ∷ more.digits)) (sym found.2) (high, low, more.digits, h.0, h.1, refl, more.spells, refl);
            spelled = ap (λ ys. high ∷ low ∷ ys) more.spelled;
          }
    ]
