-- Items that are taken one after another.
use Rattle.std.specs.Prelude.{◌≡◌, ℕ, ◌+◌, ◌<◌, List, [], ◌∷◌, ◌++◌, take, drop, length}
use Rattle.std.specs.List.{AllZip}
use Rattle.std.proofs.Common.{ap, sym, subst, ◌∙◌, get_or}
use Rattle.std.proofs.lemmas.List.{take_more, take-append-drop, append_assoc}
use Rattle.tera_conversions.proofs.GivenLaws.{zipped_on}

module _ {X : Type 0} where
  -- those before an item, and it
  pub up_to : (xs : List X) (i : ℕ) (x : X) → i < length xs → x ≡ get_or xs i x → take (i + 1) xs ≡ take i xs ++ (x ∷ [])
  up_to xs i x below is = take_more xs i x below ∙ ap (λ item. take i xs ++ (item ∷ [])) (sym is)

  -- a list about one of its items
  pub around : (xs : List X) (i : ℕ) (x : X) → i < length xs → x ≡ get_or xs i x
      → take i xs ++ (x ∷ drop (i + 1) xs) ≡ xs
  around xs i x below is =
      sym (append_assoc (take i xs) (x ∷ []) (drop (i + 1) xs))
      ∙ ap (λ front. front ++ drop (i + 1) xs) (sym (up_to xs i x below is))
      ∙ take-append-drop (i + 1) xs

module _ {X Y : Type 0} (R : X → Y → Type 0) where
  -- one more item is taken
  pub taken_on : (xs : List X) (ys : List Y) (i : ℕ) (x : X) (y : Y) → i < length xs → x ≡ get_or xs i x
      → AllZip R (take i xs) ys → R x y → AllZip R (take (i + 1) xs) (ys ++ (y ∷ []))
  taken_on xs ys i x y below is zipped taken =
      subst (λ front. AllZip R front (ys ++ (y ∷ []))) (sym (up_to xs i x below is))
      (zipped_on R (take i xs) ys x y zipped taken)
