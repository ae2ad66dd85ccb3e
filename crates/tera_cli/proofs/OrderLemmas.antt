-- What stands behind a prefix.
use Rattle.std.proofs.Common.{◌≡◌, ◌≢◌, ◌+◌, ℕ, true, false, List, [], ◌∷◌, ◌++◌, length, take, drop, Option, Some, None, refl, ap, sym, ◌∙◌, arith}
use Rattle.std.specs.Borrow.{Bor}
use Rattle.std.specs.Char.{is_ascii_whitespace}
use Rattle.std.specs.Cmp.Lexicographic.{pointwise}
use Rattle.std.specs.Prelude.{◌==◌, MatchOption}
use Rattle.std.proofs.lemmas.Bool.Decides.{Decides-eqb}
use Rattle.std.proofs.lemmas.List.{append_cancel_left}
use Rattle.std.proofs.lemmas.Slice.Eq.{strip_prefix_is}
use Rattle.tera_cli.specs.Order.{BeginsWithBlank, NamesNoFile}

-- the bytes behind a prefix, or that it is none
module _ (s : List ℕ) {p q : List ℕ} {r : Option (Bor (List ℕ))}
    (cases : MatchOption r (pointwise ◌==◌ (take (length p) s) p ≡ false)
    (λ x. (pointwise ◌==◌ (take (length p) s) p ≡ true) × (x.now ≡ drop (length p) s) × (length x.now + length p ≡ length s)))
    (e : p ≡ q)
  where
    pub no_prefix : r ≡ None → (rest : List ℕ) → s ≢ q ++ rest
    no_prefix n = rw (n, e) at (strip_prefix_is Decides-eqb s p r cases)

    pub behind_prefix : {x : Bor (List ℕ)} → r ≡ Some x → s ≡ q ++ x.now
    behind_prefix n = rw (n, e) at (strip_prefix_is Decides-eqb s p r cases)

blank_there : (bytes : List ℕ) → length bytes ≡ 0 → BeginsWithBlank bytes → ⊥
blank_there [] z h = h
blank_there (b ∷ bytes) z h = absurd (omega (arith, z))

module _ (order word behind : List ℕ) (e : order ≡ word ++ behind) where
  same_behind : (other : List ℕ) → order ≡ word ++ other → other ≡ behind
  same_behind other o = append_cancel_left word other behind (sym o ∙ e)

  -- where nothing stands behind the word, or no blank
  pub nothing_behind : length behind ≡ 0 → NamesNoFile order word
  nothing_behind z other blank o = blank_there other (ap length (same_behind other o) ∙ z) blank

  pub no_blank_behind : {first : ℕ} {rest : List ℕ} → behind ≡ first ∷ rest → is_ascii_whitespace first ≡ false → NamesNoFile order word
  no_blank_behind f not_blank other blank o = let there = rw (same_behind other o ∙ f) at blank in cc
