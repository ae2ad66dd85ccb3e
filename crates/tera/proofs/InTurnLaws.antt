-- Texts that are shown one after another: one part more, two lists of parts, and the one text of parts that have one each.
use Rattle.std.specs.Prelude.{◌≡◌, ◌≤◌, ◌<◌, ◌+◌, ◌++◌, ℕ, List, [], ◌∷◌, drop, take, length, refl}
use Rattle.std.specs.List.{AllByRecursion, flat_map}
use Rattle.std.proofs.Common.{ap, sym, subst, ◌∙◌, get_or}
use Rattle.std.proofs.lemmas.List.{append-nil, append_assoc, drop_all, drop_more, take_all}
use Rattle.std.proofs.lemmas.Grind.{take_at_read}
use Rattle.tera.specs.InTurn.{ShownInTurn}

module _ {X : Type 0} (shows : X → List ℕ → Type 0) where
  -- what two lists of parts show, one after the other
  pub shown_joined : (xs ys : List X) (first rest : List ℕ) → ShownInTurn shows xs first → ShownInTurn shows ys rest
      → ShownInTurn shows (xs ++ ys) (first ++ rest)
  shown_joined [] ys first rest is also = subst (ShownInTurn shows ys) (ap (λ front. front ++ rest) (sym is)) also
  shown_joined (x ∷ xs) ys first rest (one, others, shown, later, whole) also = (
    one,
    others ++ rest,
    shown,
    shown_joined xs ys others rest later also,
    ap (λ front. front ++ rest) whole ∙ append_assoc one others rest,
  )

  -- one part by itself
  pub shown_alone : (x : X) (text : List ℕ) → shows x text → ShownInTurn shows (x ∷ []) text
  shown_alone x text shown = (text, [], shown, refl, sym (append-nil text))

  -- one part more behind the first ones
  pub shown_more : (xs : List X) (i : ℕ) (x : X) (text shown grown : List ℕ) → i < length xs → x ≡ get_or xs i x
      → ShownInTurn shows (take i xs) text → shows x shown → grown ≡ text ++ shown → ShownInTurn shows (take (i + 1) xs) grown
  shown_more xs i x text shown grown below is so_far shows_it grows =
      let more : take (i + 1) xs ≡ take i xs ++ x ∷ [] =
      (take_at_read xs i x below).1 ∙ ap (λ last. take i xs ++ last ∷ []) (sym is) in
      subst (ShownInTurn shows (take (i + 1) xs)) (sym grows)
      (subst (λ parts. ShownInTurn shows parts (text ++ shown)) (sym more)
      (shown_joined (take i xs) (x ∷ []) text shown so_far (shown_alone x shown shows_it)))

  -- no part is left
  pub shown_all : (xs : List X) (i : ℕ) (text : List ℕ) → length xs ≤ i → ShownInTurn shows (take i xs) text → ShownInTurn shows xs text
  shown_all xs i text past so_far = subst (λ parts. ShownInTurn shows parts text) (take_all i xs past) so_far

  -- where each part shows one text, so do all
  pub shown_known : (IsKnown : X → Type 0) (known : X → List ℕ) → ((x : X) (text : List ℕ) → IsKnown x → shows x text → text ≡ known x)
      → (xs : List X) (text : List ℕ) → AllByRecursion IsKnown xs → ShownInTurn shows xs text → text ≡ flat_map known xs
  shown_known IsKnown known one [] text are is = is
  shown_known IsKnown known one (x ∷ xs) text are (first, rest, shown, later, whole) =
      whole ∙ ap (λ front. front ++ rest) (one x first are.0 shown)
      ∙ ap (λ more. known x ++ more) (shown_known IsKnown known one xs rest are.1 later)

  -- one part more before the later ones
  pub shown_before : (xs : List X) (i : ℕ) (x : X) (shown rest : List ℕ) → i < length xs → x ≡ get_or xs i x → shows x shown
      → ShownInTurn shows (drop (i + 1) xs) rest → ShownInTurn shows (drop i xs) (shown ++ rest)
  shown_before xs i x shown rest below is shows_it later =
      let left : x ∷ drop (i + 1) xs ≡ drop i xs = ap (λ first. first ∷ drop (i + 1) xs) is ∙ sym (drop_more xs i x below) in
      subst (λ parts. ShownInTurn shows parts (shown ++ rest)) left (shown, rest, shows_it, later, refl)

  -- nothing is shown of no parts
  pub shown_nothing : (xs : List X) (i : ℕ) → length xs ≤ i → ShownInTurn shows (drop i xs) []
  shown_nothing xs i past = subst (λ parts. ShownInTurn shows parts []) (sym (drop_all i xs past)) refl

  -- where each part shows some text, so do all
  pub shown_some : ((x : X) → (text : List ℕ) × shows x text) → (xs : List X) → (text : List ℕ) × ShownInTurn shows xs text
  shown_some each [] = ([], refl)
  shown_some each (x ∷ xs) =
      let first = each x in
      let rest = shown_some each xs in
      (first.0 ++ rest.0, (first.0, rest.0, first.1, rest.1, refl))
