-- Texts as they are shown, one after another.
use Rattle.std.specs.Prelude.{◌≡◌, ◌⊎◌, ◌<◌, ◌+◌, ◌++◌, ℕ, suc, Bool, true, false, List, [], ◌∷◌, map, take, length, if◌then◌else◌, refl}
use Rattle.std.specs.List.{Contains}
use Rattle.std.specs.Cow.{cow_str_bytes}
use Rattle.std.specs.declared.borrow.CowStr.{CowStr}
use Rattle.std.proofs.Common.{ap, sym, subst, ◌∙◌, get_or, arith, inl, inr}
use Rattle.std.proofs.lemmas.List.{append_assoc, map-append, length-take-le}
use Rattle.tera.proofs.ItemLaws.{up_to}
use Rattle.tera.specs.Errors.{IsOutOfMemory}
use Rattle.tera.specs.Form.{MarkedText}
use Rattle.tera.specs.Rendered.{Renders, RendersNot, is_shown_plain}
use Rattle.tera.specs.types.Error.{Error}
use Rattle.uses.specs.Filters.{EscapeRefuses, joined, shown}

-- what is rendered is what is shown
pub shown_as : {S Z : Type 0} (escapes : S → Bool) (escaped : S → List ℕ → List ℕ) (state : S) (t : MarkedText) (c : CowStr Z)
    → Renders escapes escaped state t c → cow_str_bytes c ≡ shown escapes escaped state t
shown_as escapes escaped state t c renders =
    elim (is_shown_plain escapes state t) as (λ b. is_shown_plain escapes state t ≡ b → cow_str_bytes c ≡ (if b then t.spelled else escaped state t.spelled)) [
      | true ↦ λ is. (renders.0 is).1
      | false ↦ λ is. (renders.1 is).1
    ] refl

-- one more behind some
joined_more : (between : List ℕ) (t : List ℕ) (texts : List (List ℕ)) (x : List ℕ)
    → joined between (t ∷ (texts ++ (x ∷ []))) ≡ joined between (t ∷ texts) ++ (between ++ x)
joined_more between t [] x = refl
joined_more between t (next ∷ texts) x =
    ap (λ rest. t ++ (between ++ rest)) (joined_more between next texts x)
    ∙ ap (λ rest. t ++ rest) (sym (append_assoc between (joined between (next ∷ texts)) (between ++ x)))
    ∙ sym (append_assoc t (between ++ joined between (next ∷ texts)) (between ++ x))

module _ {X : Type 0} (f : X → List ℕ) (between : List ℕ) where
  -- a text behind none, and behind some
  alone : (before : List X) (x : X) → length before ≡ 0 → joined between (map f before) ++ f x ≡ joined between (map f (before ++ (x ∷ [])))
  alone [] x none = refl
  alone (b ∷ before) x none = absurd (omega (arith, none))

  behind : (before : List X) (x : X) → 0 < length before
      → (joined between (map f before) ++ between) ++ f x ≡ joined between (map f (before ++ (x ∷ [])))
  behind [] x some = absurd (omega (arith, some))
  behind (b ∷ before) x some =
      append_assoc (joined between (f b ∷ map f before)) between (f x)
      ∙ sym (joined_more between (f b) (map f before) (f x))
      ∙ ap (λ texts. joined between (f b ∷ texts)) (sym (map-append f before (x ∷ [])))

  -- the text of the first part
  pub first_joined : (xs : List X) (i : ℕ) (x : X) (grown so_far : List ℕ) → i < length xs → x ≡ get_or xs i x → i ≡ 0
      → so_far ≡ joined between (map f (take i xs)) → grown ≡ so_far ++ f x → grown ≡ joined between (map f (take (i + 1) xs))
  first_joined xs i x grown so_far below is at_first so is_grown =
      is_grown ∙ ap (λ t. t ++ f x) so
      ∙ alone (take i xs) x (length-take-le i xs (omega (arith, below)) ∙ at_first)
      ∙ ap (λ parts. joined between (map f parts)) (sym (up_to xs i x below is))

  -- and of a later one, behind the one between them
  pub next_joined : (xs : List X) (i : ℕ) (x : X) (grown so_far : List ℕ) → i < length xs → x ≡ get_or xs i x → 0 < i
      → so_far ≡ joined between (map f (take i xs)) → grown ≡ (so_far ++ between) ++ f x → grown ≡ joined between (map f (take (i + 1) xs))
  next_joined xs i x grown so_far below is past so is_grown =
      is_grown ∙ ap (λ t. (t ++ between) ++ f x) so
      ∙ behind (take i xs) x (subst (λ n. 0 < n) (sym (length-take-le i xs (omega (arith, below)))) past)
      ∙ ap (λ parts. joined between (map f parts)) (sym (up_to xs i x below is))

-- an item is among a first one and the others
pub is_among : {X : Type 0} (first : X) (xs : List X) (i : ℕ) (x : X) → i < length xs → x ≡ get_or xs i x → Contains (first ∷ xs) x
is_among first xs i x below is = (suc i, omega (arith, below), sym is)

pub is_first : {X : Type 0} (first : X) (xs : List X) → Contains (first ∷ xs) first
is_first first xs = (0, omega arith, refl)

module _ {S : Type 0} (escapes : S → Bool) (refuses : S → List ℕ → Error → Type 0) (state : S) where
  -- what is refused of one text is refused of texts that it is among
  pub refused_of : (texts : List MarkedText) (t : MarkedText) (e : Error) → Contains texts t
      → IsOutOfMemory e ⊎ RendersNot escapes refuses state t e → EscapeRefuses escapes refuses state texts e
  refused_of texts t e among (inl memory) = inl memory
  refused_of texts t e among (inr refused) = inr (t, among, refused)
