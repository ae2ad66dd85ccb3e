-- Items that are joined one after another.
use Rattle.std.specs.Prelude.{◌≡◌, ◌++◌, ◌+◌, ◌≤◌, ◌<◌, ℕ, List, ◌∷◌, drop, length, Result, Ok, Err, refl}
use Rattle.std.proofs.Common.{ap, sym, ◌∙◌, get_or}
use Rattle.std.proofs.lemmas.List.{append-nil, append_assoc, drop_all, drop_more}
use Rattle.tera.specs.Arithmetic.{and_then, each_ok}
use Rattle.tera.specs.Form.{Form}
use Rattle.tera.specs.Refusal.{Refusal}
use Rattle.tera_filters.specs.Texts.{joinable, joined_on}

-- a text so far, and what is joined behind it
abbrev behind : List ℕ → Result (List ℕ) Refusal → Result (List ℕ) Refusal
behind t r = each_ok (λ rest. t ++ rest) r

-- the items before one are joined
abbrev pub JoinsUpTo : List ℕ → List Form → ℕ → List ℕ → List ℕ → Type 0
JoinsUpTo between xs i before now = (t : List ℕ) × (now ≡ before ++ t)
    × (joined_on between xs ≡ behind t (joined_on between (drop i xs)))

left : (xs : List Form) (i : ℕ) (x : Form) → i < length xs → x ≡ get_or xs i x → drop i xs ≡ x ∷ drop (i + 1) xs
left xs i x below at = drop_more xs i x below ∙ ap (λ y. y ∷ drop (i + 1) xs) (sym at)

regrouped : (r : Result (List ℕ) Refusal) (t between w : List ℕ)
    → behind t (each_ok (λ rest. between ++ (w ++ rest)) r) ≡ behind (t ++ (between ++ w)) r
regrouped (Ok rest) t between w =
    ap (λ l. Ok (t ++ l)) (sym (append_assoc between w rest)) ∙ ap (λ l. Ok l) (sym (append_assoc t (between ++ w) rest))
regrouped (Err refusal) t between w = refl

pub joins_next : (between : List ℕ) (xs : List Form) (i : ℕ) (x : Form) (before so_far separated now w : List ℕ)
    → i < length xs → x ≡ get_or xs i x → joinable x ≡ Ok w → separated ≡ so_far ++ between → now ≡ separated ++ w
    → JoinsUpTo between xs i before so_far → JoinsUpTo between xs (i + 1) before now
joins_next between xs i x before so_far separated now w below at is first then (t, grown, joins) = (
  t ++ (between ++ w),
  then ∙ ap (λ l. l ++ w) (first ∙ ap (λ l. l ++ between) grown)
      ∙ append_assoc (before ++ t) between w ∙ append_assoc before t (between ++ w),
  joins ∙ ap (λ l. behind t (joined_on between l)) (left xs i x below at)
      ∙ ap (λ r. behind t (and_then r (λ u. each_ok (λ rest. between ++ (u ++ rest)) (joined_on between (drop (i + 1) xs))))) is
      ∙ regrouped (joined_on between (drop (i + 1) xs)) t between w,
)

pub joins_last : (between : List ℕ) (xs : List Form) (i : ℕ) (before now : List ℕ) → length xs ≤ i
    → JoinsUpTo between xs i before now → (t : List ℕ) × (joined_on between xs ≡ Ok t) × (now ≡ before ++ t)
joins_last between xs i before now past (t, grown, joins) = (
  t,
  joins ∙ ap (λ l. behind t (joined_on between l)) (drop_all i xs past) ∙ ap (λ l. Ok l) (append-nil t),
  grown,
)
