-- Where a text may be cut before its first marked byte, and what is written of the plain bytes before that.
use Rattle.std.proofs.Common.{◌≡◌, ◌≢◌, ◌<◌, ◌≤◌, ℕ, ◌+◌, suc, zero, Bool, true, false, List, [], ◌∷◌, ◌++◌, length, take, drop, get_or, IsUtf8}
use Rattle.std.proofs.Common.{refl, sym, ap, subst, ◌∙◌, arith, inl, inr, length-append}
use lib.Utf8.{encode, encodes}
use Rattle.std.specs.Prelude.{flat_map, IfNone, None, Option, Some}
use Rattle.std.specs.List.{slice_get}
use Rattle.std.specs.Str.{chars, IsCharBoundary}
use Rattle.std.proofs.lemmas.Bool.{cases_lt}
use Rattle.std.proofs.lemmas.Bool.Decides.{nat_tests}
use Rattle.std.proofs.lemmas.List.{get_or_append_left, get_or-append-add, get_or-take, length-drop, length-take-le, take-append-drop}
use Rattle.std.proofs.lemmas.List.Concat.{flat_map-append}
use Rattle.std.proofs.lemmas.Str.{chars-append, encode_ascii, encodes-chars, length-encode, len_utf8_bounds, IsCharBoundary-start, IsCharBoundary-after_ascii}
use Rattle.tera_script.specs.Text.{spelling}
use Rattle.tera_script.specs.Written.{inside, is_numbered, tokens_of}
use Rattle.tera_script.specs.inner.Marked.{greatest, is_marked, IsPlainLen, IsPlainUpTo}
use Rattle.tera_script.proofs.WrittenParts.{first_char, first_inside, plain_char}
use Rattle.tera_script.proofs.WrittenTexts.{past_ascii}

-- ---- where it may be cut

no_middle : (b : ℕ) → is_marked 255 b ≡ true → 128 ≤ b → 192 ≤ b
no_middle b h high = grind (arith, nat_tests)

is_low : (b : ℕ) → is_marked 126 b ≡ false → b < 128
is_low b h = grind (arith, nat_tests)

pub may_be_cut : (ascii : Bool) (t : List ℕ) (n : ℕ) → IsUtf8 t → IsPlainLen (greatest ascii) t n → IsCharBoundary t n
may_be_cut false t n u h = (h.within, (λ more high. no_middle (get_or t n 0) (h.stops more) high))
may_be_cut true t zero u h = IsCharBoundary-start t u
may_be_cut true t (suc n) u h = subst (IsCharBoundary t) (omega arith)
    (IsCharBoundary-after_ascii t n u (omega (arith, h.within)) (is_low (get_or t n 0) (h.plain n (omega arith))))

-- ---- what is written of plain bytes

record IsBare (ascii : Bool) (c : ℕ) : Type 0 where
  n34 : c ≢ 34
  n92 : c ≢ 92
  n10 : c ≢ 10
  n13 : c ≢ 13
  n9 : c ≢ 9
  n0 : c ≢ 0
  unnumbered : is_numbered ascii c ≡ false

bare_low : (ascii : Bool) (c : ℕ) → is_marked (greatest ascii) c ≡ false → c < 128 → IsBare ascii c
bare_low true c h low = record {
  n34 = λ e. grind (arith, nat_tests);
  n92 = λ e. grind (arith, nat_tests);
  n10 = λ e. grind (arith, nat_tests);
  n13 = λ e. grind (arith, nat_tests);
  n9 = λ e. grind (arith, nat_tests);
  n0 = λ e. grind (arith, nat_tests);
  unnumbered = grind (arith, nat_tests);
}
bare_low false c h low = record {
  n34 = λ e. grind (arith, nat_tests);
  n92 = λ e. grind (arith, nat_tests);
  n10 = λ e. grind (arith, nat_tests);
  n13 = λ e. grind (arith, nat_tests);
  n9 = λ e. grind (arith, nat_tests);
  n0 = λ e. grind (arith, nat_tests);
  unnumbered = grind (arith, nat_tests);
}

bare_high : (c : ℕ) → 127 < c → IsBare false c
bare_high c high = record {
  n34 = λ e. omega (arith, e, high);
  n92 = λ e. omega (arith, e, high);
  n10 = λ e. omega (arith, e, high);
  n13 = λ e. omega (arith, e, high);
  n9 = λ e. omega (arith, e, high);
  n0 = λ e. omega (arith, e, high);
  unnumbered = grind (arith, nat_tests);
}

marked_high : (b : ℕ) → 127 < b → is_marked 126 b ≡ true
marked_high b high = grind (arith, nat_tests)

some_byte : (c : ℕ) → 0 < length (encode c)
some_byte c = omega (arith, length-encode c, (len_utf8_bounds c).0)

high_bare : (ascii : Bool) (c : ℕ) → IsPlainUpTo (greatest ascii) (encode c) (length (encode c)) → 127 < c → IsBare ascii c
high_bare false c plain high = bare_high c high
high_bare true c plain high =
    let marked = marked_high (get_or (encode c) 0 0) (past_ascii c high 0 (some_byte c)) in
    let plain' = plain 0 (some_byte c) in
    absurd (cc (marked, plain'))

bare : (ascii : Bool) (c : ℕ) → IsPlainUpTo (greatest ascii) (encode c) (length (encode c)) → IsBare ascii c
bare ascii c plain = elim (cases_lt c 128) [
  | inl low ↦ bare_low ascii c (subst (λ l. is_marked (greatest ascii) (get_or l 0 0) ≡ false) (encode_ascii c low) (plain 0 (some_byte c))) low
  | inr high ↦ high_bare ascii c plain (omega (arith, high))
]

itself : (ascii : Bool) (c : ℕ) → IsPlainUpTo (greatest ascii) (encode c) (length (encode c)) → encode c ≡ flat_map spelling (tokens_of ascii c)
itself ascii c plain =
    let is = bare ascii c plain in
    plain_char ascii c is.n34 is.n92 is.n10 is.n13 is.n9 is.n0 is.unnumbered

-- of bytes that are plain, the first are and the others are
plain_front : (most : ℕ) (xs ys : List ℕ) → IsPlainUpTo most (xs ++ ys) (length (xs ++ ys)) → IsPlainUpTo most xs (length xs)
plain_front most xs ys h k within =
    subst (λ b. is_marked most b ≡ false) (get_or_append_left xs ys 0 k within) (h k (omega (arith, within, length-append xs ys)))

plain_back : (most : ℕ) (xs ys : List ℕ) → IsPlainUpTo most (xs ++ ys) (length (xs ++ ys)) → IsPlainUpTo most ys (length ys)
plain_back most xs ys h k within =
    subst (λ b. is_marked most b ≡ false) (get_or-append-add xs ys k 0) (h (length xs + k) (omega (arith, within, length-append xs ys)))

all_itself : (ascii : Bool) (cs : List ℕ) → IsPlainUpTo (greatest ascii) (encodes cs) (length (encodes cs))
    → encodes cs ≡ flat_map (λ c. flat_map spelling (tokens_of ascii c)) cs
all_itself ascii [] h = refl
all_itself ascii (c ∷ cs) h =
    let first = itself ascii c (plain_front (greatest ascii) (encode c) (encodes cs) h) in
    let others = all_itself ascii cs (plain_back (greatest ascii) (encode c) (encodes cs) h) in
    λ i. first i ++ others i

-- a text of plain bytes is written as it is
pub plain_inside : (ascii : Bool) (t : List ℕ) → IsUtf8 t → IsPlainUpTo (greatest ascii) t (length t) → t ≡ inside ascii t
plain_inside ascii t u h =
    let spelled = encodes-chars t u in
    sym spelled ∙ all_itself ascii (chars t) (subst (λ l. IsPlainUpTo (greatest ascii) l (length l)) (sym spelled) h)

-- ---- the cut

-- what is written of two texts, one behind the other
inside_append : (ascii : Bool) (s t : List ℕ) → IsUtf8 s → inside ascii (s ++ t) ≡ inside ascii s ++ inside ascii t
inside_append ascii s t u =
    ap (flat_map (λ c. flat_map spelling (tokens_of ascii c))) (chars-append s t u)
    ∙ flat_map-append (λ c. flat_map spelling (tokens_of ascii c)) (chars s) (chars t)

-- the front of a text before its first marked byte is plain
pub front_plain : (ascii : Bool) (text run : List ℕ) (n : ℕ) → IsPlainLen (greatest ascii) text n → run ≡ take n text
    → IsPlainUpTo (greatest ascii) run (length run)
front_plain ascii text run n h is k within =
    let short = length-take-le n text h.within in
    let below : k < n = omega (arith, within, ap length is, short) in
    subst (λ b. is_marked (greatest ascii) b ≡ false) (sym (ap (λ l. get_or l k 0) is ∙ get_or-take n text k 0 below)) (h.plain k below)

pub cut_inside : (ascii : Bool) (text run rest after : List ℕ) (n c : ℕ) → IsUtf8 run → IsUtf8 rest → IsPlainLen (greatest ascii) text n
    → run ≡ take n text → text ≡ run ++ rest → rest ≡ encode c ++ after → Some c ≡ slice_get (chars rest) 0
    → run ++ (flat_map spelling (tokens_of ascii c) ++ inside ascii after) ≡ inside ascii text
cut_inside ascii text run rest after n c u v h is whole begins first =
    let one = first_char rest after c v begins first in
    (λ i. plain_inside ascii run u (front_plain ascii text run n h is) i ++ first_inside ascii rest after c one.1 i)
    ∙ sym (ap (inside ascii) whole ∙ inside_append ascii run rest u)

pub shorter_cut : (text run rest after : List ℕ) (c : ℕ) → text ≡ run ++ rest → rest ≡ encode c ++ after → length after < length text
shorter_cut text run rest after c whole begins =
    omega (arith, ap length whole, length-append run rest, ap length begins, length-append (encode c) after, some_byte c)

-- the length in the bytes of a text
pub len_in_text : (most most' n : ℕ) (bs t : List ℕ) → bs ≡ t → most ≡ most' → IsPlainLen most bs n → IsPlainLen most' t n
len_in_text most most' n bs t is same h = subst (λ m. IsPlainLen m t n) same (subst (λ l. IsPlainLen most l n) is h)

pub all_inside : (ascii : Bool) (t rest : List ℕ) (n : ℕ) → IsUtf8 t → IsPlainLen (greatest ascii) t n → rest ≡ drop n t → length rest ≡ 0 → t ≡ inside ascii t
all_inside ascii t rest n u h is none =
    plain_inside ascii t u (λ k within. h.plain k (omega (arith, within, none, ap length is, length-drop n t)))

pub plain_to_end : (ascii : Bool) (t : List ℕ) (n : ℕ) → IsUtf8 t → IsPlainLen (greatest ascii) t n → length t ≤ n → t ≡ inside ascii t
plain_to_end ascii t n u h all = plain_inside ascii t u (λ k within. h.plain k (omega (arith, within, all)))

pub none_so : {X : Type 0} (o : Option X) (P : Type 0) → P → IfNone o P
none_so None P p = p
none_so (Some x) P p = tt

pub whole_cut : (text run rest : List ℕ) (n : ℕ) → run ≡ take n text → rest ≡ drop n text → text ≡ run ++ rest
whole_cut text run rest n front back = sym (take-append-drop n text) ∙ (λ i. sym front i ++ sym back i)
