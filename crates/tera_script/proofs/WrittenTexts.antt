-- What is written of a number, of bytes and of a text spells it.
use Rattle.std.proofs.Common.{◌≡◌, ◌≢◌, ◌/◌, ◌%◌, ◌<◌, ◌≤◌, ◌^◌, ◌==◌, inl, inr, suc, ℕ, ℤ, pos, negsuc, Bool, true, false, List, [], ◌∷◌, ◌++◌, length, map}
use Rattle.std.proofs.Common.{get_or, refl, ap, sym, subst, ◌∙◌, arith, append-nil, IsUtf8, le-ltb}
use lib.Utf8.{scalar, scalars, encode, encodes, scalar_cases}
use Rattle.std.specs.Prelude.{flat_map}
use Rattle.std.specs.Char.{digit_value, digit_char}
use Rattle.std.specs.Char.Escape.{escape_unicode, hex_digit_at}
use Rattle.std.specs.Fmt.{digits, digits_onto, decimal}
use Rattle.std.specs.List.{AllByRecursion}
use Rattle.std.specs.Str.{chars}
use Rattle.std.proofs.lemmas.Bool.{cond_both, and_parts, cases_lt, lt-ltb}
use Rattle.std.proofs.lemmas.Bool.Decides.{nat_tests}
use Rattle.std.proofs.lemmas.Fmt.{digits_is_IsNumeral}
use Rattle.std.proofs.lemmas.List.Concat.{flat_map-append}
use Rattle.std.proofs.lemmas.Str.{encode_ascii, inside_one, encodes-chars, scalars-chars, digit_value-digit_char}
use Rattle.tera_meaning.specs.Integer.{IntegerKind, IsOfKind}
use Rattle.tera_meaning.specs.WellMade.{IsByte}
use Rattle.tera_script.specs.Literal.{SpellsBytes}
use Rattle.tera_script.specs.Number.{signed, IsKindFor, SpellsNumber}
use Rattle.tera_script.specs.Text.{Token, itself, quote, backslash, line_feed, carriage_return, tab, null, character, spelling, decoding, IsToken, SpellsText}
use Rattle.tera_script.specs.Written.{suffix_for, number_literal, bytes_literal, is_numbered, tokens_of, inside}

-- ---- numbers

kind_above : (k : IntegerKind) (n : ℕ) → IsOfKind k (pos n)
    → IsKindFor false (suffix_for (record { kind = k; value = pos n })) (record { kind = k; value = pos n })
kind_above k n h = grind (arith, nat_tests)

kind_below : (k : IntegerKind) (n : ℕ) → IsOfKind k (negsuc n)
    → IsKindFor true (suffix_for (record { kind = k; value = negsuc n })) (record { kind = k; value = negsuc n })
kind_below k n h = grind (arith, nat_tests)

pub small_above : (k : IntegerKind) (n : ℕ) → IsOfKind k (pos n) → n < 10 ^ 64
small_above k n h = grind arith

pub small_below : (k : IntegerKind) (n : ℕ) → IsOfKind k (negsuc n) → suc n < 10 ^ 64
small_below k n h = grind arith

pub number_spelled : (k : IntegerKind) (z : ℤ) → IsOfKind k z → SpellsNumber (number_literal (record { kind = k; value = z })) (record { kind = k; value = z })
number_spelled k (pos n) h =
    let is = digits_is_IsNumeral 10 false (omega arith) (omega arith) n (small_above k n h) in record {
      minus = false;
      digits = decimal n;
      suffix = suffix_for (record { kind = k; value = pos n });
      numeral = is.0;
      spelled = refl;
      value = ap pos (sym is.1);
      kind = kind_above k n h;
    }
number_spelled k (negsuc n) h =
    let is = digits_is_IsNumeral 10 false (omega arith) (omega arith) (suc n) (small_below k n h) in record {
      minus = true;
      digits = decimal (suc n);
      suffix = suffix_for (record { kind = k; value = negsuc n });
      numeral = is.0;
      spelled = refl;
      value = ap (signed true) (sym is.1);
      kind = kind_below k n h;
    }

-- ---- bytes

pub bytes_spelled : (bs : List ℕ) → AllByRecursion IsByte bs → SpellsBytes (bytes_literal bs) bs
bytes_spelled [] h = refl
bytes_spelled (b ∷ bs) h =
    let high = digit_value-digit_char (b / 16) (omega (arith, h.0)) in
    let low = digit_value-digit_char (b % 16) (omega arith) in (
      digit_char (b / 16),
      digit_char (b % 16),
      bytes_literal bs,
      omega (arith, high, h.0),
      omega (arith, low),
      omega (arith, high, low),
      bytes_spelled bs h.1,
      refl,
    )

-- ---- texts

-- the digits of a character's number
last_digit : (k n : ℕ) (acc : List ℕ) → n < 16 → digits_onto (suc k) 16 false n acc ≡ digit_char n ∷ acc
last_digit k n acc h = grind (arith, nat_tests)

more_digits : (k n : ℕ) (acc : List ℕ) → 16 ≤ n → digits_onto (suc k) 16 false n acc ≡ digits_onto k 16 false (n / 16) (digit_char (n % 16) ∷ acc)
more_digits k n acc h = grind (arith, nat_tests)

-- a digit is a letter or a decimal digit
pub digit_range : (d : ℕ) → digit_value d < 16 → (31 < d) × (d < 127)
digit_range d h = (grind (arith, nat_tests), grind (arith, nat_tests))

-- it has one to six digits, and std writes the character by them, too
record IsCode (c : ℕ) : Type 0 where
  short : length (digits 16 false c) ≤ 6
  escaped : escape_unicode c ≡ spelling (character (digits 16 false c))

code_of : (c : ℕ) (ds : List ℕ) → digits 16 false c ≡ ds → length ds ≤ 6 → escape_unicode c ≡ spelling (character ds) → IsCode c
code_of c ds is short escaped = record {
  short = subst (λ l. length l ≤ 6) (sym is) short;
  escaped = subst (λ l. escape_unicode c ≡ spelling (character l)) (sym is) escaped;
}

place : (p c d : ℕ) → c / p % 16 ≡ d → hex_digit_at p c ≡ digit_char d
place p c d e = ap digit_char e

code_1 : (c : ℕ) → c < 0x10 → IsCode c
unfolding digits
code_1 c h = code_of c (digit_char c ∷ []) (last_digit 63 c [] h) (omega arith) (
    rw (lt-ltb c 0x10 h) (λ i. 92 ∷ 117 ∷ 123 ∷ place 1 c c (omega arith) i ∷ 125 ∷ [])
    )

code_2 : (c : ℕ) → 0x10 ≤ c → c < 0x100 → IsCode c
unfolding digits
code_2 c l h = code_of c (digit_char (c / 16) ∷ digit_char (c % 16) ∷ [])
    (more_digits 63 c [] l ∙ last_digit 62 (c / 16) _ (omega arith)) (omega arith) (
    rw (le-ltb c 0x10 l, lt-ltb c 0x100 h)
    (λ i. 92 ∷ 117 ∷ 123 ∷ place 0x10 c (c / 16) (omega arith) i ∷ place 1 c (c % 16) (omega arith) i ∷ 125 ∷ [])
    )

code_3 : (c : ℕ) → 0x100 ≤ c → c < 0x1000 → IsCode c
unfolding digits
code_3 c l h = code_of c (digit_char (c / 16 / 16) ∷ digit_char (c / 16 % 16) ∷ digit_char (c % 16) ∷ [])
    (more_digits 63 c [] (omega arith) ∙ more_digits 62 (c / 16) _ (omega arith) ∙ last_digit 61 (c / 16 / 16) _ (omega arith)) (omega arith) (
    rw (le-ltb c 0x10 (omega arith), le-ltb c 0x100 l, lt-ltb c 0x1000 h)
    (λ i. 92 ∷ 117 ∷ 123 ∷ place 0x100 c (c / 16 / 16) (omega arith) i ∷ place 0x10 c (c / 16 % 16) (omega arith) i
    ∷ place 1 c (c % 16) (omega arith) i ∷ 125 ∷ [])
    )

code_4 : (c : ℕ) → 0x1000 ≤ c → c < 0x10000 → IsCode c
unfolding digits
code_4 c l h = code_of c (digit_char (c / 16 / 16 / 16) ∷ digit_char (c / 16 / 16 % 16) ∷ digit_char (c / 16 % 16) ∷ digit_char (c % 16) ∷ [])
    (more_digits 63 c [] (omega arith) ∙ more_digits 62 (c / 16) _ (omega arith) ∙ more_digits 61 (c / 16 / 16) _ (omega arith)
    ∙ last_digit 60 (c / 16 / 16 / 16) _ (omega arith)) (omega arith) (
    rw (le-ltb c 0x10 (omega arith), le-ltb c 0x100 (omega arith), le-ltb c 0x1000 l, lt-ltb c 0x10000 h)
    (λ i. 92 ∷ 117 ∷ 123 ∷ place 0x1000 c (c / 16 / 16 / 16) (omega arith) i ∷ place 0x100 c (c / 16 / 16 % 16) (omega arith) i
    ∷ place 0x10 c (c / 16 % 16) (omega arith) i ∷ place 1 c (c % 16) (omega arith) i ∷ 125 ∷ [])
    )

code_5 : (c : ℕ) → 0x10000 ≤ c → c < 0x100000 → IsCode c
unfolding digits
code_5 c l h = code_of c (digit_char (c / 16 / 16 / 16 / 16) ∷ digit_char (c / 16 / 16 / 16 % 16) ∷ digit_char (c / 16 / 16 % 16)
    ∷ digit_char (c / 16 % 16) ∷ digit_char (c % 16) ∷ [])
    (more_digits 63 c [] (omega arith) ∙ more_digits 62 (c / 16) _ (omega arith) ∙ more_digits 61 (c / 16 / 16) _ (omega arith)
    ∙ more_digits 60 (c / 16 / 16 / 16) _ (omega arith) ∙ last_digit 59 (c / 16 / 16 / 16 / 16) _ (omega arith)) (omega arith) (
    rw (le-ltb c 0x10 (omega arith), le-ltb c 0x100 (omega arith), le-ltb c 0x1000 (omega arith), le-ltb c 0x10000 l, lt-ltb c 0x100000 h)
    (λ i. 92 ∷ 117 ∷ 123 ∷ place 0x10000 c (c / 16 / 16 / 16 / 16) (omega arith) i ∷ place 0x1000 c (c / 16 / 16 / 16 % 16) (omega arith) i
    ∷ place 0x100 c (c / 16 / 16 % 16) (omega arith) i ∷ place 0x10 c (c / 16 % 16) (omega arith) i ∷ place 1 c (c % 16) (omega arith) i ∷ 125 ∷ [])
    )

code_6 : (c : ℕ) → 0x100000 ≤ c → c < 0x110000 → IsCode c
unfolding digits
code_6 c l h = code_of c (digit_char (c / 16 / 16 / 16 / 16 / 16) ∷ digit_char (c / 16 / 16 / 16 / 16 % 16) ∷ digit_char (c / 16 / 16 / 16 % 16)
    ∷ digit_char (c / 16 / 16 % 16) ∷ digit_char (c / 16 % 16) ∷ digit_char (c % 16) ∷ [])
    (more_digits 63 c [] (omega arith) ∙ more_digits 62 (c / 16) _ (omega arith) ∙ more_digits 61 (c / 16 / 16) _ (omega arith)
    ∙ more_digits 60 (c / 16 / 16 / 16) _ (omega arith) ∙ more_digits 59 (c / 16 / 16 / 16 / 16) _ (omega arith)
    ∙ last_digit 58 (c / 16 / 16 / 16 / 16 / 16) _ (omega arith)) (omega arith) (
    rw (le-ltb c 0x10 (omega arith), le-ltb c 0x100 (omega arith), le-ltb c 0x1000 (omega arith), le-ltb c 0x10000 (omega arith), le-ltb c 0x100000 l)
    (λ i. 92 ∷ 117 ∷ 123 ∷ place 0x100000 c (c / 16 / 16 / 16 / 16 / 16) (omega arith) i ∷ place 0x10000 c (c / 16 / 16 / 16 / 16 % 16) (omega arith) i
    ∷ place 0x1000 c (c / 16 / 16 / 16 % 16) (omega arith) i ∷ place 0x100 c (c / 16 / 16 % 16) (omega arith) i ∷ place 0x10 c (c / 16 % 16) (omega arith) i
    ∷ place 1 c (c % 16) (omega arith) i ∷ 125 ∷ [])
    )

is_code : (c : ℕ) → c < 0x110000 → IsCode c
is_code c h = elim (cases_lt c 0x10) [
  | inl h1 ↦ code_1 c h1
  | inr l1 ↦ elim (cases_lt c 0x100) [
    | inl h2 ↦ code_2 c l1 h2
    | inr l2 ↦ elim (cases_lt c 0x1000) [
      | inl h3 ↦ code_3 c l2 h3
      | inr l3 ↦ elim (cases_lt c 0x10000) [
        | inl h4 ↦ code_4 c l3 h4
        | inr l4 ↦ elim (cases_lt c 0x100000) [
          | inl h5 ↦ code_5 c l4 h5
          | inr l5 ↦ code_6 c l5 h
        ]
      ]
    ]
  ]
]

pub below_all : (c : ℕ) → scalar c ≡ true → c < 0x110000
below_all c ok = elim (scalar_cases c ok) [
  | inl low ↦ omega arith
  | inr high ↦ high.1
]

pub code_written : (c : ℕ) → scalar c ≡ true → escape_unicode c ≡ spelling (character (digits 16 false c))
code_written c ok = (is_code c (below_all c ok)).escaped

-- each byte past ASCII stands for itself
each_itself : (bs : List ℕ) → ((k : ℕ) → k < length bs → 127 < get_or bs k 0) → AllByRecursion IsToken (map itself bs)
each_itself [] h = tt
each_itself (b ∷ bs) h =
    let first = h 0 (omega arith) in
    ((λ e. omega (arith, e, first), λ e. omega (arith, e, first)), each_itself bs (λ k within. h (suc k) (omega arith)))

pub past_ascii : (c : ℕ) → 127 < c → (k : ℕ) → k < length (encode c) → 127 < get_or (encode c) k 0
past_ascii c h k within = elim (cases_lt (get_or (encode c) k 0) 128) [
  | inl low ↦ absurd (omega (arith, inside_one c [] (encode c) k (sym (append-nil _)) within low))
  | inr high ↦ omega arith
]

themselves : (bs : List ℕ) → flat_map decoding (map itself bs) ≡ bs
themselves [] = refl
themselves (b ∷ bs) = ap (λ l. b ∷ l) (themselves bs)

pub spelled_themselves : (bs : List ℕ) → flat_map spelling (map itself bs) ≡ bs
spelled_themselves [] = refl
spelled_themselves (b ∷ bs) = ap (λ l. b ∷ l) (spelled_themselves bs)

-- the tokens stand for the character
abbrev StandFor : ℕ → List Token → Type 0
StandFor c tokens = AllByRecursion IsToken tokens × (flat_map decoding tokens ≡ encode c)

same : (c d : ℕ) → (c == d) ≡ true → d ≡ c
same c d e = grind (arith, nat_tests)

other : (c d : ℕ) → (c == d) ≡ false → c ≢ d
other c d e = grind (arith, nat_tests)

by_letter : (c d : ℕ) (token : Token) → IsToken token → d < 128 → (c == d) ≡ true → decoding token ≡ d ∷ [] → StandFor c (token ∷ [])
by_letter c d token is low e stands =
    ((is, tt), append-nil (decoding token) ∙ stands ∙ sym (encode_ascii d low) ∙ ap encode (same c d e))

by_number : (c : ℕ) → scalar c ≡ true → StandFor c (character (digits 16 false c) ∷ [])
by_number c ok =
    let below = below_all c ok in
    let is = digits_is_IsNumeral 16 false (omega arith) (omega arith) c (omega arith) in
    (((is.0.1, is.0.0, (is_code c below).short, subst (λ n. scalar n ≡ true) (sym is.1) ok), tt), append-nil _ ∙ ap encode is.1)

by_itself : (c : ℕ) → c ≢ 34 → c ≢ 92 → StandFor c (map itself (encode c))
by_itself c no_quote no_slash = (
  elim (cases_lt c 128) [
    | inl low ↦ subst (λ l. AllByRecursion IsToken (map itself l)) (sym (encode_ascii c low)) ((no_quote, no_slash), tt)
    | inr high ↦ each_itself (encode c) (past_ascii c (omega arith))
  ],
  themselves (encode c),
)

stands : (ascii : Bool) (c : ℕ) → scalar c ≡ true → StandFor c (tokens_of ascii c)
stands ascii c ok =
    cond_both (c == 34) _ _ (StandFor c) (λ e. by_letter c 34 quote tt (omega arith) e refl) (λ quote'.
    cond_both (c == 92) _ _ (StandFor c) (λ e. by_letter c 92 backslash tt (omega arith) e refl) (λ slash'.
    cond_both (c == 10) _ _ (StandFor c) (λ e. by_letter c 10 line_feed tt (omega arith) e refl) (λ _.
    cond_both (c == 13) _ _ (StandFor c) (λ e. by_letter c 13 carriage_return tt (omega arith) e refl) (λ _.
    cond_both (c == 9) _ _ (StandFor c) (λ e. by_letter c 9 tab tt (omega arith) e refl) (λ _.
    cond_both (c == 0) _ _ (StandFor c) (λ e. by_letter c 0 null tt (omega arith) e refl) (λ _.
    cond_both (is_numbered ascii c) _ _ (StandFor c) (λ e. by_number c ok) (λ _. by_itself c (other c 34 quote') (other c 92 slash'))))))))

both : (xs ys : List Token) → AllByRecursion IsToken xs → AllByRecursion IsToken ys → AllByRecursion IsToken (xs ++ ys)
both [] ys p q = q
both (x ∷ xs) ys p q = (p.0, both xs ys p.1 q)

all_stand : (ascii : Bool) (cs : List ℕ) → scalars cs ≡ true
    → AllByRecursion IsToken (flat_map (tokens_of ascii) cs) × (flat_map decoding (flat_map (tokens_of ascii) cs) ≡ encodes cs)
all_stand ascii [] ok = (tt, refl)
all_stand ascii (c ∷ cs) ok =
    let p = and_parts _ _ ok in
    let first = stands ascii c p.0 in
    let others = all_stand ascii cs p.1 in (
      both (tokens_of ascii c) (flat_map (tokens_of ascii) cs) first.0 others.0,
      flat_map-append decoding (tokens_of ascii c) (flat_map (tokens_of ascii) cs) ∙ (λ i. first.1 i ++ others.1 i),
    )

by_tokens : (ascii : Bool) (cs : List ℕ) → flat_map (λ c. flat_map spelling (tokens_of ascii c)) cs ≡ flat_map spelling (flat_map (tokens_of ascii) cs)
by_tokens ascii [] = refl
by_tokens ascii (c ∷ cs) = ap (λ l. flat_map spelling (tokens_of ascii c) ++ l) (by_tokens ascii cs)
    ∙ sym (flat_map-append spelling (tokens_of ascii c) (flat_map (tokens_of ascii) cs))

pub text_spelled : (ascii : Bool) (t : List ℕ) → IsUtf8 t → SpellsText (inside ascii t) t
text_spelled ascii t u =
    let all = all_stand ascii (chars t) (scalars-chars t u) in
    (flat_map (tokens_of ascii) (chars t), all.0, by_tokens ascii (chars t), sym (all.1 ∙ encodes-chars t u))
