-- Characters that come off either end of a text, and walks over them.
use Rattle.std.specs.Prelude.{◌≡◌, ℕ, ◌<◌, ◌≤◌, Bool, true, false, List, [], ◌∷◌, ◌++◌, reverse, length, get_or, slice_get, Option, Some, None, MatchOption}
use Rattle.std.specs.Prelude.{refl, ◌⊎◌, ◌+◌, ◌-◌, ◌^◌, min, zero, suc, ℤ, pos, negsuc, int_lt, take, drop}
use Rattle.std.specs.{Str.chars, Str.IsUtf8, Str.IsCharBoundary, Str.encode_utf8_all, Str.IsAscii, Iterator.SkipsThenYields, declared.str.Chars.Chars}
use Rattle.std.specs.{Str.Iter.chars_rest, Str.Iter.chars_steps, Str.Iter.chars_steps_back, Char.encode_utf8}
use Rattle.std.proofs.lemmas.List.{nil_from_length, reverse-append, length-append, length-reverse, length-take, length-drop, drop-drop, take-append-drop}
use Rattle.std.proofs.lemmas.Str.{chars-nil, encodes-chars, length-le-encodes, chars-append, chars_past_char, IsUtf8-past_char, IsUtf8-take, IsUtf8-drop}
use Rattle.std.proofs.lemmas.Str.{IsCharBoundary-at_seam, encodes-append, chars-IsAscii, IsUtf8-from_ascii, IsCharBoundary-from_drop}
use Rattle.std.proofs.Common.{inl, inr, sym, ◌∙◌, ap, subst, arith, append-nil, ltb-true, append_assoc}
use Rattle.std.proofs.{str.Laws.order, str.Laws.one, str.Laws.two, str.Laws.three, str.Laws.four, Math.Seq.take-append_seam, Math.Seq.drop-append_seam}
use Rattle.std.proofs.{lemmas.List.take_at, lemmas.List.drop_at, lemmas.List.drop_all, lemmas.Iterator.Splits.YieldsList-from_shown_while}
use Rattle.std.proofs.{lemmas.Grind.common_steps, lemmas.Grind.elements, lemmas.Iterator.Consumers.nth_from_yields_List, lemmas.Iterator.YieldsList-from_chars}
use Rattle.std.proofs.{lemmas.Iterator.Adapters.option_map_id, lemmas.Bool.cases_lt}
use Rattle.tera_scalars.specs.{inner.Ends.chars_from, inner.Ends.near, inner.Ends.far, Positions.turned}
use Rattle.tera_meaning.specs.Slice.{directed, walked}
use Rattle.tera_scalars.proofs.PositionLaws.{walked_on}

-- ---- characters at an end

-- the first byte of a character is no later byte of one
first_byte : (c : ℕ) → (0 < length (encode_utf8 c)) × (128 ≤ get_or (encode_utf8 c) 0 0 → 192 ≤ get_or (encode_utf8 c) 0 0)
first_byte c = elim (order c 128) [
  | inl h ↦ rw (one c h) (omega arith)
  | inr a ↦ elim (order c 2048) [
    | inl h ↦ rw (two c a h) (omega arith)
    | inr b ↦ elim (order c 65536) [ inl h ↦ rw (three c b h) (omega arith) | inr d ↦ rw (four c d) (omega arith) ]
  ]
]

-- the two parts of a text that is cut at a character
parts : (xs ys : List ℕ) → IsUtf8 (xs ++ ys) → IsCharBoundary (xs ++ ys) (length xs) → IsUtf8 xs × IsUtf8 ys
parts xs ys whole cut = (
  subst IsUtf8 (take-append_seam xs ys) (IsUtf8-take _ (length xs) whole cut),
  subst IsUtf8 (drop-append_seam xs ys) (IsUtf8-drop _ (length xs) whole cut),
)

-- what a character is that comes off an end, and what is left
module _ (bs rest : List ℕ) (c : ℕ) (utf8 : IsUtf8 bs) where
  pub first_char : bs ≡ encode_utf8 c ++ rest → IsUtf8 (encode_utf8 c) × IsUtf8 rest × (chars bs ≡ c ∷ chars rest)
  first_char split =
      let left = IsUtf8-past_char bs rest c utf8 split in
      let both = parts (encode_utf8 c) rest (subst IsUtf8 split utf8) (IsCharBoundary-at_seam _ (encode_utf8 c) rest refl left) in
      (both.0, left, chars_past_char bs rest c utf8 split)

  pub last_char : bs ≡ rest ++ encode_utf8 c → IsUtf8 (encode_utf8 c) × IsUtf8 rest × (reverse (chars bs) ≡ c ∷ reverse (chars rest))
  last_char split =
      let (some, lead) = first_byte c in
      let at : get_or (rest ++ encode_utf8 c) (length rest) 0 ≡ get_or (encode_utf8 c) 0 0 = grind (arith, common_steps) in
      let cut : IsCharBoundary (rest ++ encode_utf8 c) (length rest) = (omega (arith, length-append rest (encode_utf8 c)), λ h m. omega (arith, at, lead)) in
      let both = parts rest (encode_utf8 c) (subst IsUtf8 split utf8) cut in
      let alone : chars (encode_utf8 c) ≡ c ∷ [] = chars_past_char (encode_utf8 c) [] c both.1 (sym (append-nil (encode_utf8 c))) ∙ ap (λ l. c ∷ l) chars-nil in
      let all = ap chars split ∙ chars-append rest (encode_utf8 c) both.0 ∙ ap (λ l. chars rest ++ l) alone in
      (both.1, both.0, ap reverse all ∙ reverse-append (chars rest) (c ∷ []))

pub no_chars : (backwards : Bool) (bs : List ℕ) → length bs ≡ 0 → chars_from backwards bs ≡ []
no_chars false bs e = rw (nil_from_length bs e) chars-nil
no_chars true bs e = rw (nil_from_length bs e, chars-nil)

-- what comes off an end of what is left, where a character at that end may be split off
pub came : {T : Type 0} (now : T → List ℕ) (s t : Chars) (backwards : Bool) (Split : ℕ → Type 0)
    → ((c : ℕ) → Split c → IsUtf8 (encode_utf8 c) × IsUtf8 (chars_rest t) × (chars_from backwards (chars_rest s) ≡ c ∷ chars_from backwards (chars_rest t)))
    → (r : Option T) → MatchOption r ((length (chars_rest s) ≡ 0) × (t ≡ s)) (λ x. (c : ℕ) × (now x ≡ encode_utf8 c) × Split c)
    → MatchOption r ((chars_from backwards (chars_rest s) ≡ []) × (t ≡ s))
    (λ x. IsUtf8 (now x) × (c : ℕ) × (now x ≡ encode_utf8 c) × (chars_from backwards (chars_rest s) ≡ c ∷ chars_from backwards (chars_rest t)))
came now s t backwards Split off None ended = (no_chars backwards (chars_rest s) ended.0, ended.1)
came now s t backwards Split off (Some x) (c, is, split) = let h = off c split in (subst IsUtf8 (sym is) h.0, c, is, h.2)

-- no text has more characters than bytes
pub chars_le_bytes : (backwards : Bool) (bs : List ℕ) → IsUtf8 bs → length (chars_from backwards bs) ≤ length bs
chars_le_bytes false bs u = omega (arith, length-le-encodes (chars bs), ap length (encodes-chars bs u))
chars_le_bytes true bs u = omega (arith, length-le-encodes (chars bs), ap length (encodes-chars bs u), length-reverse (chars bs))

-- the character that `nth` and `nth_back` give
module _ (s u : Chars) (bs : List ℕ) (r : Option ℕ) (n : ℕ) (rest : chars_rest s ≡ bs) (utf8 : IsUtf8 bs) where
  pub nth_forwards : SkipsThenYields chars_steps s n r u → r ≡ slice_get (chars bs) n
  nth_forwards ran = sym (option_map_id r) ∙ nth_from_yields_List r u n ran (YieldsList-from_chars bs utf8 rest)

  pub nth_backwards : SkipsThenYields chars_steps_back s n r u → r ≡ slice_get (reverse (chars bs)) n
  nth_backwards ran =
      let yields = YieldsList-from_shown_while chars_steps_back (λ c. c) (λ t. reverse (chars (chars_rest t))) (λ t. IsUtf8 (chars_rest t))
      (λ t v text ended. ap length (no_chars true (chars_rest t) ended.0))
      (λ t c v text split. let off = last_char (chars_rest t) (chars_rest v) c text split in (off.1, off.2))
      s (subst IsUtf8 (sym rest) utf8)
      in
      sym (option_map_id r) ∙ nth_from_yields_List r u n ran yields ∙ ap (λ l. slice_get (reverse (chars l)) n) rest

-- ---- walks from an end

pub length_turned : {X : Type 0} (backwards : Bool) (xs : List X) → length (turned backwards xs) ≡ length xs
length_turned false xs = refl
length_turned true xs = length-reverse xs

pub turned_directed : (backwards : Bool) (step : ℤ) (cs : List ℕ) → backwards ≡ int_lt step (pos 0) → turned backwards cs ≡ directed step cs
turned_directed false (pos n) cs e = refl
turned_directed true (pos n) cs e = let less = ltb-true n 0 (sym e) in absurd (omega arith)
turned_directed false (negsuc n) cs e = cc
turned_directed true (negsuc n) cs e = refl

-- no more are taken than there are
take_most : (n m : ℕ) (xs : List ℕ) → length xs ≤ m → take (min n m) xs ≡ take n xs
take_most n m xs within = grind (arith, elements)

-- ---- ASCII bytes at an end of a text

-- two parts are what is taken and what is left
sides : (n : ℕ) (xs ys zs : List ℕ) → xs ++ ys ≡ zs → length xs ≡ n → (xs ≡ take n zs) × (ys ≡ drop n zs)
sides n xs ys zs whole long = (cc (take_at xs ys n long), cc (drop_at xs ys n long))

-- the bytes are the characters there, and the others are those of the other bytes
pub ascii_near : (bs : List ℕ) (count : ℕ) → IsUtf8 bs → count ≤ length bs → (backwards : Bool) → IsAscii (near backwards count bs)
    → (turned backwards (near backwards count bs) ≡ take count (chars_from backwards bs))
    × (chars_from backwards (far backwards count bs) ≡ drop count (chars_from backwards bs))
ascii_near bs count utf8 within false ascii =
    let front = take count bs in
    let back = drop count bs in
    sides count front (chars back) (chars bs)
    (cc (chars-IsAscii front ascii, chars-append front back (IsUtf8-from_ascii front ascii), take-append-drop count bs)) (omega (arith, length-take count bs))
ascii_near bs count utf8 within true ascii =
    let at = length bs - count in
    let front = take at bs in
    let back = drop at bs in
    let left = IsUtf8-take bs at utf8 (IsCharBoundary-from_drop bs at (omega arith) (IsUtf8-from_ascii back ascii)) in
    sides count (reverse back) (reverse (chars front)) (reverse (chars bs))
    (cc (chars-IsAscii back ascii, reverse-append (chars front) (chars back), chars-append front back left, take-append-drop at bs))
    (omega (arith, length-reverse back, length-drop at bs))

-- ASCII bytes at an end, so many or all, are the characters there
pub bytes_taken : (backwards : Bool) (bytes bs : List ℕ) (count most : ℕ) → IsUtf8 bs → most ≡ min count (length bs)
    → bytes ≡ near backwards most bs → IsAscii bytes → turned backwards bytes ≡ take count (chars_from backwards bs)
bytes_taken backwards bytes bs count most utf8 at are ascii =
    rw are ((ascii_near bs most utf8 (omega arith) backwards (subst IsAscii are ascii)).0)
    ∙ ap (λ n. take n (chars_from backwards bs)) at ∙ take_most count (length bs) _ (chars_le_bytes backwards bs utf8)

-- what stands before what is left of a text once so many characters are off its front
pub before_left : (bs left : List ℕ) (count : ℕ) → IsUtf8 bs → IsUtf8 left → chars left ≡ drop count (chars bs)
    → let at = length bs - length left in
    (length left ≤ length bs) × IsCharBoundary bs at × (take at bs ≡ encode_utf8_all (take count (chars bs)))
before_left bs left count utf8 text off =
    let front = encode_utf8_all (take count (chars bs)) in
    let seam : bs ≡ front ++ left =
    cc (encodes-chars bs utf8, take-append-drop count (chars bs), encodes-append (take count (chars bs)) (drop count (chars bs)), encodes-chars left text) in
    let long = ap length seam ∙ length-append front left in
    let at : length front ≡ length bs - length left = omega (arith, long) in (
      omega (arith, long),
      subst (IsCharBoundary bs) at (IsCharBoundary-at_seam bs front left seam text),
      ap (take (length bs - length left)) seam ∙ take_at front left _ at,
    )

-- ---- walks

-- where none is left
pub none_left : (all : List ℕ) (turn count : ℕ) → turn ≤ count → [] ≡ drop turn all → [] ≡ drop count all
none_left all turn count more none = sym (drop_all count all (omega (arith, ap length none, length-drop turn all)))

taken_none : (n : ℕ) (xs : List ℕ) → (n ≡ 0) ⊎ (xs ≡ []) → take n xs ≡ []
taken_none n xs e = grind (arith, elements)

-- what was put, and what a walk takes of the rest, is what it takes of all
abbrev pub Remains : ℕ → ℕ → ℕ → List ℕ → List ℕ → List ℕ → Type 0
Remains p waits count rest made all = made ++ encode_utf8_all (walked p waits (take count rest)) ≡ all

module _ (p n m c : ℕ) (rest later made all : List ℕ) (off : rest ≡ c ∷ later) (is : n ≡ suc m) where
  pub passes : (waits next : ℕ) → waits ≡ suc next → Remains p waits n rest made all → Remains p next m later made all
  passes waits next less so_far = rw (is, off, less) at so_far

  pub takes : (waits : ℕ) (more : List ℕ) → waits ≡ 0 → more ≡ made ++ encode_utf8 c → Remains p waits n rest made all → Remains p p m later more all
  takes waits more none put so_far = rw (put, append_assoc) (rw (is, off, none) at so_far)

pub all_put : (p waits n : ℕ) (rest made all : List ℕ) → (n ≡ 0) ⊎ (rest ≡ []) → Remains p waits n rest made all → made ≡ all
all_put p waits n rest made all ended so_far = rw (taken_none n rest ended, append-nil) at so_far

drop-taken : (from until : ℕ) (xs : List ℕ) → drop from (take until xs) ≡ take (until - from) (drop from xs)
drop-taken from until xs = grind (arith, elements)

-- to walk behind the first ones is to wait for them
pub walks_behind : (p from until count : ℕ) (rest all : List ℕ) → count ≡ until - from → rest ≡ drop from all
    → walked p 0 (take count rest) ≡ walked p from (take until all)
walks_behind p from until count rest all many behind = rw (many, behind, ← drop-taken from until all, walked_on p from (take until all))

nothing_taken : (p count : ℕ) (xs : List ℕ) → walked p 0 (take count xs) ≡ [] → (count ≡ 0) ⊎ (xs ≡ [])
nothing_taken p zero xs none = inl refl
nothing_taken p (suc n) [] none = inr refl
nothing_taken p (suc n) (x ∷ xs) none = absurd cc

no_characters : (backwards : Bool) (bs : List ℕ) → IsUtf8 bs → chars_from backwards bs ≡ [] → bs ≡ []
no_characters backwards bs utf8 none =
    let empty = nil_from_length (chars bs) (sym (length_turned backwards (chars bs)) ∙ ap length none) in
    sym (encodes-chars bs utf8) ∙ ap encode_utf8_all empty

-- a walk takes nothing of a text just where it takes none of its characters, or where the text is empty
pub none_walked : (p count : ℕ) (backwards : Bool) (bs : List ℕ) → IsUtf8 bs
    → walked p 0 (take count (chars_from backwards bs)) ≡ [] → (count ≡ 0) ⊎ (length bs ≡ 0)
none_walked p count backwards bs utf8 none = elim (nothing_taken p count (chars_from backwards bs) none) [
  | inl zero_taken ↦ inl zero_taken
  | inr empty ↦ inr (ap length (no_characters backwards bs utf8 empty))
]

pub walks_none : (p count : ℕ) (backwards : Bool) (bs : List ℕ) → (count ≡ 0) ⊎ (length bs ≡ 0)
    → walked p 0 (take count (chars_from backwards bs)) ≡ []
walks_none p count backwards bs (inl zero_taken) = rw zero_taken refl
walks_none p count backwards bs (inr empty) =
    let none : chars_from backwards bs ≡ [] = nil_from_length _ (length_turned backwards (chars bs)
    ∙ ap length (ap chars (nil_from_length bs empty) ∙ chars-nil)) in
    ap (walked p 0) (taken_none count (chars_from backwards bs) (inr none))

-- ---- a walk over ASCII bytes

behind_next : (xs : List ℕ) (n x : ℕ) → slice_get xs n ≡ Some x → drop n xs ≡ x ∷ drop (suc n) xs
behind_next [] n x e = cc
behind_next (y ∷ ys) zero x e = cc
behind_next (y ∷ ys) (suc n) x e = behind_next ys n x e

-- from one item that a walk takes to the next one
walked_next : (xs : List ℕ) (x place pace next : ℕ) → slice_get xs place ≡ Some x → 0 < pace → next ≡ min (place + pace) (2 ^ 64 - 1)
    → length xs < 2 ^ 64 → walked (pace - 1) 0 (drop place xs) ≡ x ∷ walked (pace - 1) 0 (drop next xs)
walked_next xs x place pace next is some on fits =
    let far : suc place + (pace - 1) ≡ place + pace = omega arith in
    let behind : drop (pace - 1) (drop (suc place) xs) ≡ drop next xs = drop-drop (pace - 1) (suc place) xs ∙ rw far (elim (cases_lt (place + pace) (2 ^ 64)) [
      | inl near ↦ let same : next ≡ place + pace = omega arith in rw same
      | inr past ↦ rw (drop_all (place + pace) xs (omega arith), drop_all next xs (omega arith))
    ]) in
    ap (walked (pace - 1) 0) (behind_next xs place x is)
    ∙ ap (λ ys. x ∷ ys) (walked_on (pace - 1) (pace - 1) (drop (suc place) xs) ∙ ap (walked (pace - 1) 0) behind)

-- what was put, and what a walk takes of the rest, is what it takes of all
abbrev pub IsPutSoFar : ℕ → List ℕ → ℕ → List ℕ → Type 0
IsPutSoFar p cs place made = made ++ encode_utf8_all (walked p 0 (drop place cs)) ≡ encode_utf8_all (walked p 0 cs)

pub put_next : (cs made later : List ℕ) (c place pace next : ℕ) → slice_get cs place ≡ Some c → 0 < pace
    → next ≡ min (place + pace) (2 ^ 64 - 1) → length cs < 2 ^ 64 → later ≡ made ++ encode_utf8 c
    → IsPutSoFar (pace - 1) cs place made → IsPutSoFar (pace - 1) cs next later
put_next cs made later c place pace next is some on fits put so_far =
    rw (put, append_assoc) (rw (walked_next cs c place pace next is some on fits) at so_far)

pub put_all : (p : ℕ) (cs made : List ℕ) (place : ℕ) → length cs ≤ place → IsPutSoFar p cs place made
    → made ≡ encode_utf8_all (walked p 0 cs)
put_all p cs made place ended so_far = rw (drop_all place cs ended, append-nil) at so_far
