-- The bytes of characters, turned where they stand.
use Rattle.std.specs.Prelude.{◌≡◌, ◌<◌, ◌≤◌, ◌+◌, ◌-◌, ℕ, true, ◌&&◌, List, [], ◌∷◌, ◌++◌, reverse, length, take, drop, get_or}
use Rattle.std.specs.{Str.chars, Str.encode_utf8_all, Str.IsUtf8, Str.IsAscii, Str.IsCharBoundary, Char.encode_utf8, List.swap}
use Rattle.std.proofs.lemmas.List.{reverse-append, length-reverse, length-append, length-take-le, length-drop, get_or-drop, get_or-reverse, get_or_past}
use Rattle.std.proofs.lemmas.List.{take_at, drop_at, take-append-drop, append_cancel_left, reverse-reverse, nil_from_length, set-append_right}
use Rattle.std.proofs.lemmas.Str.{IsUtf8-drop, IsUtf8-from_ascii, chars-IsAscii, encodes-IsAscii, chars-nil, scalars-chars, chars_past_char, chars-append}
use Rattle.std.proofs.str.Laws.{Shape, of1, of2, of3, of4, shape, both, scalars-append}
use Rattle.std.proofs.Common.{refl, sym, ap, ◌∙◌, subst, arith, append_assoc, append-nil}
use Rattle.std.proofs.{lemmas.Str.encodes-append, lemmas.Str.encodes-chars, lemmas.Str.IsCharBoundary-from_take, lemmas.List.get_or-append_right}
use Rattle.std.proofs.{lemmas.List.Edits.swap_is, lemmas.Grind.elements}
use lib.Utf8.{scalars, scalar, scalar_cases}

-- ---- the character at a place

-- how many bytes a character has, by what its first one is
pub record Widths (first n : ℕ) : Type 0 where
  pub one : first < 128 → n ≡ 1
  pub two : 128 ≤ first → first < 224 → n ≡ 2
  pub three : 224 ≤ first → first < 240 → n ≡ 3
  pub four : 240 ≤ first → n ≡ 4

by_shape : (c : ℕ) (rest : List ℕ) → Shape c → Widths (get_or (encode_utf8 c ++ rest) 0 0) (length (encode_utf8 c))
by_shape c rest (of1 l e) = rw e (omega arith)
by_shape c rest (of2 a b l u f s e) = rw e (omega arith)
by_shape c rest (of3 a b d l u f g s e) = rw e (omega arith)
by_shape c rest (of4 a b d x l u f g k s e) = rw e (omega arith)

pub spelled : (bs : List ℕ) (at : ℕ) → IsUtf8 (drop at bs) → at < length bs → (c : ℕ) × (rest : List ℕ) × (drop at bs ≡ encode_utf8 c ++ rest) × IsUtf8 rest
    × Widths (get_or bs at 0) (length (encode_utf8 c)) × (at + length (encode_utf8 c) ≤ length bs)
spelled bs at ([], (fine, e)) within = absurd (omega (arith, ap length e, length-drop at bs))
spelled bs at (c ∷ cs, (fine, e)) within =
    let (one, others) = both (scalar c) (scalars cs) fine in
    let none : at + 0 ≡ at = omega arith in
    let first : get_or (encode_utf8 c ++ encode_utf8_all cs) 0 0 ≡ get_or bs at 0 =
    ap (λ xs. get_or xs 0 0) e ∙ get_or-drop at bs 0 0 ∙ ap (λ k. get_or bs k 0) none in (
      c,
      encode_utf8_all cs,
      sym e,
      (cs, (others, refl)),
      subst (λ b. Widths b (length (encode_utf8 c))) first (by_shape c (encode_utf8_all cs) (shape c (scalar_cases c one))),
      omega (arith, ap length e, length-append (encode_utf8 c) (encode_utf8_all cs), length-drop at bs),
    )

-- ---- its bytes turned

swap_right : (xs ys : List ℕ) (at i j m n : ℕ) → length xs ≡ at → (m ≡ at + i) × (n ≡ at + j) × (i < length ys) × (j < length ys)
    → swap (xs ++ ys) m n ≡ xs ++ swap ys i j
swap_right xs ys at i j m n long (is_m, is_n, within_i, within_j) =
    let whole = swap_is (xs ++ ys) m n 0 (omega (arith, length-append xs ys)) (omega (arith, length-append xs ys)) in
    let part = swap_is ys i j 0 within_i within_j in
    grind (arith, set-append_right, get_or-append_right, whole, part)

-- one byte is as it stands
pub one_turned : (xs p rest bs : List ℕ) → bs ≡ xs ++ (p ++ rest) → 1 ≡ length p → bs ≡ xs ++ (reverse p ++ rest)
one_turned xs (a ∷ []) rest bs whole is = whole
one_turned xs p rest bs whole is = absurd (omega arith)

-- the outer bytes of up to three change places
pub few_turned : (xs p rest bs : List ℕ) (at n j : ℕ) → length xs ≡ at → bs ≡ xs ++ (p ++ rest) → n ≡ length p → 0 < n → n < 4 → j ≡ at + n - 1
    → swap bs at j ≡ xs ++ (reverse p ++ rest)
few_turned xs (a ∷ []) rest bs at n j long whole is some most to = rw whole (swap_right xs (a ∷ rest) at 0 0 at j long (omega arith))
few_turned xs (a ∷ b ∷ []) rest bs at n j long whole is some most to = rw whole (swap_right xs (a ∷ b ∷ rest) at 0 1 at j long (omega arith))
few_turned xs (a ∷ b ∷ c ∷ []) rest bs at n j long whole is some most to = rw whole (swap_right xs (a ∷ b ∷ c ∷ rest) at 0 2 at j long (omega arith))
few_turned xs p rest bs at n j long whole is some most to = absurd (omega arith)

-- of four the inner ones do so too
pub four_turned : (xs p rest bs : List ℕ) (at j k m : ℕ) → length xs ≡ at → bs ≡ xs ++ (p ++ rest) → 4 ≡ length p → j ≡ at + 4 - 1
    → k ≡ at + 1 → m ≡ at + 2 → swap (swap bs at j) k m ≡ xs ++ (reverse p ++ rest)
four_turned xs (a ∷ b ∷ c ∷ d ∷ []) rest bs at j k m long whole is to from until =
    rw (whole, swap_right xs (a ∷ b ∷ c ∷ d ∷ rest) at 0 3 at j long (omega arith)) (swap_right xs (d ∷ b ∷ c ∷ a ∷ rest) at 1 2 k m long (omega arith))
four_turned xs p rest bs at j k m long whole is to from until = absurd (omega arith)

-- ---- one character after another

ascii_reversed : (bs : List ℕ) → IsAscii bs → IsAscii (reverse bs)
ascii_reversed bs ascii i = grind (arith, elements, get_or-reverse, get_or_past, ascii)

-- the bytes of each character, turned
abbrev pub spelled_back : List ℕ → List ℕ
spelled_back cs = reverse (encode_utf8_all (reverse cs))

-- the characters before a place are turned, and the others stand as they did
pub record IsTurnedTo (old new : List ℕ) (at : ℕ) : Type 0 where
  pub front : List ℕ
  pub rest : List ℕ
  pub text : IsUtf8 rest
  pub all : chars old ≡ front ++ chars rest
  pub long : length (spelled_back front) ≡ at
  pub size : at + length rest ≡ length old
  pub is : new ≡ spelled_back front ++ rest

pub none_turned : (old : List ℕ) → IsUtf8 old → IsTurnedTo old old 0
none_turned old utf8 = record { front = []; rest = old; text = utf8; all = refl; long = refl; size = omega arith; is = refl }

module _ {old new : List ℕ} {at : ℕ} (h : IsTurnedTo old new at) where
  others : drop at new ≡ h.rest
  others = rw h.is (drop_at (spelled_back h.front) h.rest at h.long)

  pub text_behind : IsUtf8 (drop at new)
  text_behind = rw others h.text

  same_length : length new ≡ length old
  same_length = omega (arith, ap length h.is, length-append (spelled_back h.front) h.rest, h.long, h.size)

  -- characters behind the place are turned too
  turned_by : (more cs later : List ℕ) (n next : ℕ) → IsUtf8 later → chars h.rest ≡ cs ++ chars later → length (spelled_back cs) ≡ n
      → n + length later ≡ length h.rest → next ≡ at + n → more ≡ spelled_back h.front ++ (spelled_back cs ++ later) → IsTurnedTo old more next
  turned_by more cs later n next text split long size to is =
      let turned : spelled_back (h.front ++ cs) ≡ spelled_back h.front ++ spelled_back cs = simp (reverse-append, encodes-append) in
      record {
        front = h.front ++ cs;
        rest = later;
        text = text;
        all = h.all ∙ ap (λ ds. h.front ++ ds) split ∙ sym (append_assoc h.front cs (chars later));
        long = ap length turned ∙ omega (arith, length-append (spelled_back h.front) (spelled_back cs), h.long, long, to);
        size = omega (arith, h.size, size, to);
        is = is ∙ sym (append_assoc (spelled_back h.front) (spelled_back cs) later) ∙ ap (λ bs. bs ++ later) (sym turned);
      }

  pub turned_more : (more : List ℕ) (n next c : ℕ) (rest : List ℕ) → drop at new ≡ encode_utf8 c ++ rest → IsUtf8 rest → n ≡ length (encode_utf8 c)
      → next ≡ at + n → more ≡ take at new ++ (reverse (encode_utf8 c) ++ rest) → IsTurnedTo old more next
  turned_more more n next c rest split left long to turned =
      let off : h.rest ≡ encode_utf8 c ++ rest = sym others ∙ split in
      let one : spelled_back (c ∷ []) ≡ reverse (encode_utf8 c) = ap reverse (append-nil (encode_utf8 c)) in
      let before : take at new ≡ spelled_back h.front = rw h.is (take_at (spelled_back h.front) h.rest at h.long) in
      turned_by more (c ∷ []) rest n next left (chars_past_char h.rest rest c h.text off) (ap length one ∙ omega (arith, length-reverse (encode_utf8 c), long))
      (omega (arith, ap length off, length-append (encode_utf8 c) rest, long)) to (turned ∙ (λ i. before i ++ ((sym one) i ++ rest)))

  -- ASCII bytes are as they stand
  pub ascii_passed : (next : ℕ) → at < next → next ≤ length new → IsAscii (take (next - at) (drop at new)) → IsTurnedTo old new next
  ascii_passed next on within ascii =
      let n = next - at in
      let run = take n h.rest in
      let plain : IsAscii run = rw others at ascii in
      let whole = take-append-drop n h.rest in
      let many : n ≤ length h.rest = omega (arith, same_length, h.size) in
      let back : spelled_back run ≡ run = ap reverse (encodes-IsAscii (reverse run) (ascii_reversed run plain)) ∙ reverse-reverse run in
      turned_by new run (drop n h.rest) n next
      (IsUtf8-drop h.rest n h.text (IsCharBoundary-from_take h.rest n h.text many (IsUtf8-from_ascii run plain)))
      (ap chars (sym whole) ∙ chars-append run (drop n h.rest) (IsUtf8-from_ascii run plain) ∙ ap (λ cs. cs ++ chars (drop n h.rest)) (chars-IsAscii run plain))
      (ap length back ∙ length-take-le n h.rest many) (omega (arith, length-drop n h.rest)) (omega arith)
      (h.is ∙ ap (λ bs. spelled_back h.front ++ bs) (sym whole ∙ ap (λ bs. bs ++ drop n h.rest) (sym back)))

  pub all_turned : length new ≤ at → new ≡ spelled_back (chars old)
  all_turned ended =
      let none : h.rest ≡ [] = nil_from_length h.rest (omega (arith, h.size, same_length)) in
      let front = rw (none, chars-nil, append-nil) at h.all in
      (rw (none, append-nil) at h.is) ∙ ap spelled_back (sym front)

-- ---- all the bytes turned

scalars_reversed : (cs : List ℕ) → scalars cs ≡ true → scalars (reverse cs) ≡ true
scalars_reversed [] fine = refl
scalars_reversed (c ∷ cs) fine =
    let (one, others) = both (scalar c) (scalars cs) fine in
    ap scalars (reverse-append (c ∷ []) cs) ∙ scalars-append (reverse cs) (c ∷ []) (scalars_reversed cs others) (ap (λ y. y && true) one)

pub utf8_reversed : (bs : List ℕ) → IsUtf8 bs → IsUtf8 (encode_utf8_all (reverse (chars bs)))
utf8_reversed bs utf8 = (reverse (chars bs), (scalars_reversed (chars bs) (scalars-chars bs utf8), refl))

-- the bytes of each character turned, and then all of them
pub turned_over : (bs copy each all : List ℕ) → copy ≡ bs → each ≡ spelled_back (chars copy) → all ≡ reverse each
    → all ≡ encode_utf8_all (reverse (chars bs))
turned_over bs copy each all copied turned over = cc (reverse-reverse (encode_utf8_all (reverse (chars copy))))

-- what stands behind what is left of a text once so many characters are off its end
pub behind_left : (bs left : List ℕ) (count : ℕ) → IsUtf8 bs → IsUtf8 left → reverse (chars left) ≡ drop count (reverse (chars bs))
    → IsCharBoundary bs (length left) × (reverse (chars (drop (length left) bs)) ≡ take count (reverse (chars bs)))
behind_left bs left count utf8 text off =
    let back = reverse (chars bs) in
    let taken = reverse (take count back) in
    let split : chars bs ≡ chars left ++ taken =
    cc (reverse-reverse (chars bs), take-append-drop count back, reverse-append (take count back) (drop count back), reverse-reverse (chars left)) in
    let seam : bs ≡ left ++ encode_utf8_all taken =
    cc (encodes-chars bs utf8, split, encodes-append (chars left) taken, encodes-chars left text) in
    let front : take (length left) bs ≡ left = ap (take (length left)) seam ∙ take_at left _ _ refl in
    let rest : drop (length left) bs ≡ encode_utf8_all taken = ap (drop (length left)) seam ∙ drop_at left _ _ refl in
    let behind : chars (drop (length left) bs) ≡ taken =
    append_cancel_left (chars left) _ _ (cc (chars-append left (drop (length left) bs) text, rest, seam, split)) in (
      IsCharBoundary-from_take bs (length left) utf8 (omega (arith, ap length seam, length-append left (encode_utf8_all taken))) (rw front text),
      ap reverse behind ∙ reverse-reverse (take count back),
    )
