-- What std's `replace` makes of a text is what the definition gives.
use Rattle.std.specs.Prelude.{◌≡◌, ◌≢◌, ◌+◌, ◌++◌, ℕ, zero, suc, cond, true, false, List, [], ◌∷◌, length, take, drop, Option, Some, None, refl}
use Rattle.std.specs.Str.Replace.{ContinuesAfterMatch, ReplacesMatches}
use Rattle.std.specs.Char.{encode_utf8}
use Rattle.std.specs.Str.{IsUtf8, chars}
use Rattle.std.specs.Str.Pattern.{FindsText, LacksTextAt}
use Rattle.std.proofs.Common.{ap, sym, subst, ◌∙◌, inl, inr, arith, Bor}
use Rattle.std.proofs.lemmas.Bool.{and_from, and_parts, eq-eqb, eqb-true, false_from_ne_true}
use Rattle.std.proofs.lemmas.List.{append-nil, drop_all, nil_from_length, drop_at, take_all, take_at}
use Rattle.std.proofs.lemmas.Str.{IsUtf8-past_char, chars-nil, chars_past_char}
use Rattle.tera.specs.Lookup.{begins_with}
use Rattle.tera_filters.specs.Parts.{NotBefore, around, in_place, replaced}

-- what a text that is looked for finds, and what stays the same of it
abbrev Finds : Bor (List ℕ) → List ℕ → Option (ℕ × ℕ) → Type 0
Finds p = FindsText p.now

abbrev Keeps : Bor (List ℕ) → Bor (List ℕ) → Type 0
Keeps p q = q.now ≡ p.now

-- what comes of a text where so many places are found
abbrev pub Made : List ℕ → ℕ → Bor (List ℕ) → List ℕ → List ℕ → Type 0
Made = ReplacesMatches Finds Keeps

begins_split : (bs part : List ℕ) → begins_with bs part ≡ true → (rest : List ℕ) × (bs ≡ part ++ rest)
begins_split bs [] is = (bs, refl)
begins_split [] (p ∷ part) is = absurd (cc)
begins_split (b ∷ bs) (p ∷ part) is =
    let both = and_parts _ _ is in
    let same = eqb-true b p both.0 in
    let (rest, more) = begins_split bs part both.1 in
    (rest, ap (λ x. x ∷ bs) same ∙ ap (λ l. p ∷ l) more)

begins_again : (part rest : List ℕ) → begins_with (part ++ rest) part ≡ true
begins_again [] [] = refl
begins_again [] (b ∷ rest) = refl
begins_again (p ∷ part) rest = and_from _ _ (eq-eqb p p refl) (begins_again part rest)

lacking : (part bs : List ℕ) → LacksTextAt part bs 0 → begins_with bs part ≡ false
lacking part bs lacks = false_from_ne_true _ (λ is. let (rest, split) = begins_split bs part is in lacks rest split)

module _ (to : List ℕ) (first : ℕ) (others : List ℕ) where
  -- the bytes that are to be passed over are
  passed_over : (xs ys : List ℕ) → in_place to first others (length xs) (xs ++ ys) ≡ in_place to first others 0 ys
  passed_over [] ys = refl
  passed_over (x ∷ xs) ys = passed_over xs ys

  -- what stands before the first place where it is stays
  stays : (a : ℕ) (s : List ℕ) → NotBefore (first ∷ others) a s
      → in_place to first others 0 s ≡ take a s ++ in_place to first others 0 (drop a s)
  stays zero s lacks = refl
  stays (suc a) [] lacks = refl
  stays (suc a) (b ∷ bs) lacks =
      ap (λ t. cond t (to ++ in_place to first others (length others) bs) (b ∷ in_place to first others 0 bs))
      (lacking (first ∷ others) (b ∷ bs) (lacks 0 (omega arith)))
      ∙ ap (λ l. b ∷ l) (stays a bs (λ i below. lacks (suc i) (omega (arith, below))))

  gives_place : (rest : List ℕ) → in_place to first others 0 (first ∷ (others ++ rest)) ≡ to ++ in_place to first others 0 rest
  gives_place rest =
      ap (λ t. cond t (to ++ in_place to first others (length others) (others ++ rest)) (first ∷ in_place to first others 0 (others ++ rest)))
      (begins_again (first ∷ others) rest)
      ∙ ap (λ l. to ++ l) (passed_over others rest)

  none_there : (s : List ℕ) → NotBefore (first ∷ others) (length s) s → in_place to first others 0 s ≡ s
  none_there s lacks =
      stays (length s) s lacks
      ∙ ap (λ l. take (length s) s ++ in_place to first others 0 l) (drop_all (length s) s (omega arith))
      ∙ append-nil (take (length s) s) ∙ take_all (length s) s (omega arith)

  -- what follows a place is that of what stands behind it
  follows : (n : ℕ) (q : Bor (List ℕ)) (s : List ℕ) (a b : ℕ) (rest : List ℕ) → b ≡ a + length (first ∷ others)
      → ((t out : List ℕ) → Made to n q t out → out ≡ in_place to first others 0 t)
      → ContinuesAfterMatch Finds Keeps to (Made to n q) s a b rest → rest ≡ in_place to first others 0 (drop b s)
  follows n q s a b rest ends each (inl (below, on)) = each (drop b s) rest on
  follows n q s a b rest ends each (inr (same, on)) = absurd (omega (arith, ends, same))

  put_in_place : (n : ℕ) (p : Bor (List ℕ)) (s out : List ℕ) → p.now ≡ first ∷ others → Made to n p s out
      → out ≡ in_place to first others 0 s
  put_in_place zero p s out is (found, same) =
      let lacks = subst (λ f. FindsText f s None) is found in
      same ∙ sym (none_there s (λ i below. lacks i (omega (arith, below))))
  put_in_place (suc n) p s out is (a, b, q, rest, found, keeps, continues, made) =
      let (lacks, has) = subst (λ f. FindsText f s (Some (a, b))) is found in
      let each : (t l : List ℕ) → Made to n q t l → l ≡ in_place to first others 0 t = λ t l. put_in_place n q t l (keeps ∙ is) in
      made ∙ ap (λ l. take a s ++ (to ++ l)) (follows n q s a b rest has.ends each continues)
      ∙ sym (stays a s lacks ∙ ap (λ l. take a s ++ in_place to first others 0 l) has.split
      ∙ ap (λ l. take a s ++ l) (gives_place (drop b s)))

-- an empty text is found at the front
at_front : (a : ℕ) (s : List ℕ) → NotBefore [] a s → a ≡ 0
at_front zero s lacks = refl
at_front (suc a) s lacks = absurd (lacks 0 (omega arith) s refl)

module _ (to : List ℕ) where
  passes_one : (n : ℕ) (q : Bor (List ℕ)) (s rest : List ℕ) → IsUtf8 s
      → ((t out : List ℕ) → IsUtf8 t → Made to n q t out → out ≡ around to (chars t))
      → ContinuesAfterMatch Finds Keeps to (Made to n q) s 0 0 rest → to ++ rest ≡ around to (chars s)
  passes_one n q s rest utf8 each (inl (below, on)) = absurd (omega (arith, below))
  passes_one n q s rest utf8 each (inr (same, inl (none, empty))) =
      ap (λ l. to ++ l) empty ∙ append-nil to ∙ sym (ap (around to) (ap chars (nil_from_length s none) ∙ chars-nil))
  passes_one n q s rest utf8 each (inr (same, inr (c, t, more, split, on, is))) =
      ap (λ l. to ++ l) (is ∙ ap (λ l. encode_utf8 c ++ l) (each t more (IsUtf8-past_char s t c utf8 split) on))
      ∙ sym (ap (around to) (chars_past_char s t c utf8 split))

  put_around : (n : ℕ) (p : Bor (List ℕ)) (s out : List ℕ) → p.now ≡ [] → IsUtf8 s → Made to n p s out
      → out ≡ around to (chars s)
  put_around zero p s out is utf8 (found, same) = absurd (subst (λ f. FindsText f s None) is found 0 (omega arith) s refl)
  put_around (suc n) p s out is utf8 (a, b, q, rest, found, keeps, continues, made) =
      let (lacks, has) = subst (λ f. FindsText f s (Some (a, b))) is found in
      let start = at_front a s lacks in
      let end : b ≡ 0 = omega (arith, start, has.ends) in
      let On = Made to n q in
      let on = subst (λ i. ContinuesAfterMatch Finds Keeps to On s i 0 rest) start
      (subst (λ j. ContinuesAfterMatch Finds Keeps to On s a j rest) end continues) in
      made ∙ ap (λ i. take i s ++ (to ++ rest)) start
      ∙ passes_one n q s rest utf8 (λ t l text. put_around n q t l (keeps ∙ is) text) on

pub replaces : (to from : List ℕ) (n : ℕ) (p : Bor (List ℕ)) (s out : List ℕ) → p.now ≡ from → IsUtf8 s
    → Made to n p s out → out ≡ replaced to from s
replaces to [] n p s out is utf8 made = put_around to n p s out is utf8 made
replaces to (first ∷ others) n p s out is utf8 made = put_in_place to first others n p s out is made

-- a text in which it stands nowhere, and one in which it stands somewhere first
pub nowhere : (to from text : List ℕ) → from ≢ [] → NotBefore from (length text) text → replaced to from text ≡ text
nowhere to [] text some lacks = absurd (some refl)
nowhere to (first ∷ others) text some lacks = none_there to first others text lacks

pub first_place : (to from left right : List ℕ) → from ≢ [] → NotBefore from (length left) (left ++ (from ++ right))
    → replaced to from (left ++ (from ++ right)) ≡ left ++ (to ++ replaced to from right)
first_place to [] left right some lacks = absurd (some refl)
first_place to (first ∷ others) left right some lacks =
    let rest = (first ∷ others) ++ right in
    stays to first others (length left) (left ++ rest) lacks
    ∙ ap (λ l. l ++ in_place to first others 0 (drop (length left) (left ++ rest))) (take_at left rest (length left) refl)
    ∙ ap (λ l. left ++ in_place to first others 0 l) (drop_at left rest (length left) refl)
    ∙ ap (λ l. left ++ l) (gives_place to first others right)
