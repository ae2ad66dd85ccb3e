-- Symbols one behind the other.
use Rattle.std.specs.Prelude.{◌≡◌, ⊤, ◌++◌, ◌==◌, ◌&&◌, ℕ, true, List, [], ◌∷◌, length, map, refl}
use Rattle.std.proofs.Common.{ap, rules, subst, sym, ◌∙◌}
use Rattle.std.proofs.lemmas.List.{append_assoc}
use Rattle.tera_page.proofs.Fronts.{both}
use Rattle.std.specs.List.{list_all}
use Rattle.tera_page.specs.Symbols.{AreSymbols, BeginWith, Symbol, SymbolsAnd}
use Rattle.tera_page.specs.Words.{AreBlanks, is_blank}

blanks_more : (bs cs : List ℕ) → AreBlanks bs → AreBlanks cs → AreBlanks (bs ++ cs)
blanks_more [] cs some more = more
blanks_more (b ∷ bs) cs some more =
    let (blank, later) = both (is_blank b) (list_all is_blank bs) some in
    ap (λ t. t && list_all is_blank (bs ++ cs)) blank ∙ blanks_more bs cs later more

module _ (Rest : List ℕ → Type 0) (told : (before text rest : List ℕ) → AreBlanks before → text ≡ before ++ rest → Rest rest → Rest text) where
  -- the same symbols behind blanks, where the rest is such behind blanks too
  behind_blanks : (ss : List Symbol) (before text rest : List ℕ) → AreBlanks before → text ≡ before ++ rest → SymbolsAnd Rest ss rest
      → SymbolsAnd Rest ss text
  behind_blanks [] before text rest blanks is some = told before text rest blanks is some
  behind_blanks (s ∷ ss) before text rest blanks is (more, inner, later, more_blanks, same, spelled, others) = (
    before ++ more,
    inner,
    later,
    blanks_more before more blanks more_blanks,
    is ∙ ap (λ l. before ++ l) same ∙ sym (append_assoc before more inner),
    spelled,
    others,
  )

pub symbols_behind : (ss : List Symbol) (before text rest : List ℕ) → AreBlanks before → text ≡ before ++ rest → AreSymbols ss rest
    → AreSymbols ss text
symbols_behind ss before text rest blanks is some =
    behind_blanks AreBlanks (λ first whole last blank same more. subst AreBlanks (sym same) (blanks_more first last blank more))
    ss before text rest blanks is some

pub begins_behind : (ss : List Symbol) (before text rest : List ℕ) → AreBlanks before → text ≡ before ++ rest → BeginWith ss rest → BeginWith ss text
begins_behind ss before text rest blanks is some =
    behind_blanks (λ last. ⊤) (λ first whole last blank same more. tt) ss before text rest blanks is some

pub pushed : {X Y : Type 0} (f : X → Y) (xs : List X) (x : X) (ys : List Y) → map f (xs ++ x ∷ []) ++ ys ≡ map f xs ++ (f x ∷ ys)
pushed f [] x ys = refl
pushed f (z ∷ xs) x ys = ap (λ l. f z ∷ l) (pushed f xs x ys)

pub none_there : (bs : List ℕ) → (length bs == 0) ≡ true → bs ≡ []
none_there [] is = refl
none_there (b ∷ bs) is = absurd (search (rules, is))
