-- The parts of a text are the only ones; and the line of a number, from a later line on.
use Rattle.std.proofs.Common.{◌≡◌, ◌≢◌, ◌==◌, ℕ, zero, suc, ◌+◌, ◌-◌, ◌<◌, ◌≤◌, Bool, true, false, List, [], ◌∷◌, ◌++◌, ◌⊎◌, inl, inr, All, length, get_or}
use Rattle.std.proofs.Common.{take, drop, slice_range, refl, sym, ap, ◌∙◌, subst, arith, ne_eqb}
use Rattle.std.proofs.lemmas.Bool.{eqb-false, eq-eqb}
use Rattle.std.proofs.lemmas.List.{drop-drop, get_or_default, get_or-take, length-drop, length-take-le, take-append-drop}
use Rattle.std.proofs.lemmas.List.Elements.{All-nil, All-cons, All-head, All-tail}
use Rattle.std.proofs.lemmas.List.Splits.{join_with_byte-slice_split, length-slice_split, slice_split_none, slice_split_at, slice_split-cons_yes}
use Rattle.std.proofs.lemmas.List.Splits.{slice_split-cons_no}
use Rattle.std.proofs.Math.Seq.{drop-cons, drop-nil}
use Rattle.std.proofs.lemmas.Option.{slice_get_past}
use Rattle.std.specs.List.{join_with_byte, onto_first, slice_get}
use Rattle.tera_report.specs.Parts.{HasNone, HasNoLineFeed, AreParts, parts_of, line_feed}
use Rattle.std.specs.Option.{unwrap_or}
use Rattle.tera_report.specs.Report.{numbered_line, pieces_of}

module _ (separator : ℕ) where
  abbrev Free : List ℕ → Type 0
  Free = HasNone separator

  onto_free : (b : ℕ) (parts : List (List ℕ)) → b ≢ separator → All Free parts → All Free (onto_first b parts)
  onto_free b [] n h = All-cons Free (b ∷ []) [] (All-cons (λ c. c ≢ separator) b [] n (All-nil (λ c. c ≢ separator))) (All-nil Free)
  onto_free b (part ∷ parts) n h =
      All-cons Free (b ∷ part) parts (All-cons (λ c. c ≢ separator) b part n (All-head Free part parts h)) (All-tail Free part parts h)

  all_free : (text : List ℕ) → All Free (parts_of separator text)
  all_free [] = All-cons Free [] [] (All-nil (λ c. c ≢ separator)) (All-nil Free)
  all_free (b ∷ bs) = by (b == separator) refl (all_free bs)
    where
      by : (t : Bool) → (b == separator) ≡ t → All Free (parts_of separator bs) → All Free (parts_of separator (b ∷ bs))
      by true e h =
          subst (All Free) (sym (slice_split-cons_yes (λ c. c == separator) b bs e)) (All-cons Free [] (parts_of separator bs) (All-nil (λ c. c ≢ separator)) h)
      by false e h = subst (All Free) (sym (slice_split-cons_no (λ c. c == separator) b bs e)) (onto_free b (parts_of separator bs) (eqb-false b separator e) h)

  pub these_are_parts : (text : List ℕ) → AreParts separator text (parts_of separator text)
  these_are_parts text = (
    (λ e. let long = length-slice_split (λ c. c == separator) text in absurd (omega (arith, long, ap length e))),
    all_free text,
    join_with_byte-slice_split separator text,
  )

  none_passes : (text : List ℕ) → Free text → All (λ b. (b == separator) ≡ false) text
  none_passes text h = λ k d within. ne_eqb _ separator (h k d within)

  -- a text without the separator is one part, and one before a separator is the first part
  pub one_part : (text : List ℕ) → Free text → parts_of separator text ≡ text ∷ []
  one_part text h = slice_split_none (λ c. c == separator) text (none_passes text h)

  pub first_part : (front back : List ℕ) → Free front → parts_of separator (front ++ separator ∷ back) ≡ front ∷ parts_of separator back
  first_part front back h = slice_split_at (λ c. c == separator) front separator back (none_passes front h) (same separator)
    where
      same : (n : ℕ) → (n == n) ≡ true
      same n = eq-eqb n n refl

  parts_joined : (parts : List (List ℕ)) → parts ≢ [] → All Free parts → parts_of separator (join_with_byte separator parts) ≡ parts
  parts_joined [] some h = absurd (some refl)
  parts_joined (e ∷ []) some h = one_part e (All-head Free e [] h)
  parts_joined (e ∷ f ∷ es) some h =
      first_part e (join_with_byte separator (f ∷ es)) (All-head Free e (f ∷ es) h)
      ∙ ap (λ l. e ∷ l) (parts_joined (f ∷ es) (λ x. cc) (All-tail Free e (f ∷ es) h))

  pub only_these_are_parts : (text : List ℕ) (parts : List (List ℕ)) → AreParts separator text parts → parts ≡ parts_of separator text
  only_these_are_parts text parts (some, apart, is) = sym (parts_joined parts some apart) ∙ ap (parts_of separator) is

-- what is left of a list from a place on begins with the element there
first_left : {X : Type 0} (xs : List X) (n : ℕ) → slice_get (drop n xs) 0 ≡ slice_get xs n
first_left [] n = ap (λ l. slice_get l 0) (drop-nil n)
first_left (x ∷ xs) zero = refl
first_left (x ∷ xs) (suc n) = first_left xs n

-- the lines from a line on begin with that line
pub line_from : (source rest : List ℕ) (number : ℕ) → 0 < number → pieces_of rest ≡ drop (number - 1) (pieces_of source)
    → numbered_line rest 1 ≡ numbered_line source number
line_from source rest zero some is = absurd (omega (arith, some))
line_from source rest (suc n) some is =
    let before : suc n - 1 ≡ n = omega arith in
    ap (λ l. unwrap_or (slice_get l 0) []) (is ∙ ap (λ k. drop k (pieces_of source)) before)
    ∙ ap (λ o. unwrap_or o []) (first_left (pieces_of source) n)

-- there is no line of a number past the last one's
pub no_line_of : (source : List ℕ) (number : ℕ) → (number ≡ 0) ⊎ (length (pieces_of source) < number) → numbered_line source number ≡ []
no_line_of source zero past = refl
no_line_of source (suc n) (inl zeroth) = absurd (omega (arith, zeroth))
no_line_of source (suc n) (inr past) = ap (λ o. unwrap_or o []) (slice_get_past (pieces_of source) n (omega (arith, past)))

-- the line before the first line feed, and the only line of a source without line feeds
pub first_line : (front back : List ℕ) → HasNoLineFeed front → numbered_line (front ++ line_feed ∷ back) 1 ≡ front
first_line front back free = ap (λ l. unwrap_or (slice_get l 0) []) (first_part line_feed front back free)

pub only_line : (source : List ℕ) → HasNoLineFeed source → numbered_line source 1 ≡ source
only_line source free = ap (λ l. unwrap_or (slice_get l 0) []) (one_part line_feed source free)

-- behind a line feed stand the lines from the next line on
pub line_later : (source front back rest : List ℕ) (at : ℕ) → HasNoLineFeed front → rest ≡ front ++ line_feed ∷ back
    → pieces_of rest ≡ drop at (pieces_of source) → pieces_of back ≡ drop (at + 1) (pieces_of source)
line_later source front back rest at free is stands =
    ap (drop 1) (sym (first_part line_feed front back free) ∙ ap pieces_of (sym is) ∙ stands) ∙ drop-drop 1 at (pieces_of source)

-- a rest without a line feed is the last line
pub last_line : (source rest : List ℕ) (at : ℕ) → HasNoLineFeed rest → pieces_of rest ≡ drop at (pieces_of source)
    → length (pieces_of source) ≡ at + 1
last_line source rest at free stands =
    let one = ap length (sym (one_part line_feed rest free) ∙ stands) ∙ length-drop at (pieces_of source) in
    omega (arith, one)

-- a text is cut around its first line feed
pub cut_at_feed : (text front back : List ℕ) (at : ℕ) → at < length text → get_or text at 0 ≡ line_feed
    → ((k : ℕ) → 0 ≤ k → k < at → (get_or text k 0 == line_feed) ≡ true → ⊥)
    → front ≡ slice_range text 0 at → back ≡ drop (at + 1) text → HasNoLineFeed front × (text ≡ front ++ line_feed ∷ back)
cut_at_feed text front back at inside feed before whole back_is =
    let all : at - 0 ≡ at = omega arith in
    let front_is = whole ∙ ap (λ n. take n text) all in
    let long : length front ≡ at = ap length front_is ∙ length-take-le at text (omega (arith, inside)) in
    let next : suc at ≡ at + 1 = omega arith in (
      (λ k d within is.
          let early : k < at = omega (arith, within, long) in
          let zeroth : get_or front k 0 ≡ get_or text k 0 = ap (λ l. get_or l k 0) front_is ∙ get_or-take at text k 0 early in
          before k (omega arith) early (eq-eqb _ line_feed (sym zeroth ∙ get_or_default front k 0 d within ∙ is))),
      sym (take-append-drop at text)
          ∙ ap (λ l. l ++ drop at text) (sym front_is)
          ∙ ap (λ l. front ++ l) (drop-cons text at 0 inside ∙ ap (λ b. b ∷ drop (suc at) text) feed
          ∙ ap (λ l. line_feed ∷ l) (ap (λ n. drop n text) next ∙ sym back_is)),
    )
