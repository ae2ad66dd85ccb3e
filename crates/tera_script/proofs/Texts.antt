-- Texts: what is read byte by byte is spelled so, and what is spelled so is read.
use Rattle.std.proofs.Common.{◌≡◌, ◌≢◌, ℕ, ◌+◌, ◌*◌, ◌^◌, ◌-◌, ◌<◌, ◌≤◌, ◌⊎◌, inl, inr, zero, suc, suc-le-suc, List, [], ◌∷◌, ◌++◌, length, get_or, take, drop}
use Rattle.std.proofs.Common.{Option, Some, None, refl, sym, ap, ◌∙◌, subst, arith, append_assoc, append-nil, length-append, add-zero}
use Rattle.std.specs.Prelude.{flat_map, encode_utf8, IsUtf8, cond, Bool, true, false, ◌&&◌, ◌==◌, nat_lt}
use lib.Utf8.{scalar}
use Rattle.std.specs.Char.{digit_value, IsScalar}
use Rattle.std.specs.List.{AllByRecursion}
use Rattle.std.specs.Option.{option_and_then, option_map}
use Rattle.std.specs.Str.Parse.{AllDigits, digits_value, digits_value_after}
use Rattle.std.proofs.Math.Nat.{pow-le-pow_right}
use Rattle.std.proofs.lemmas.Bool.Decides.{nat_tests}
use Rattle.std.proofs.lemmas.Int.Digits.{digits_value_push, digits_push}
use Rattle.std.proofs.lemmas.List.{append_cancel_right}
use Rattle.std.proofs.lemmas.Option.{some_pair_parts}
use Rattle.tera_script.specs.Text.{Token, itself, character, spelling, decoding, IsToken, SpellsText, BeginsWithText}
use Rattle.tera_script.specs.TextParts.{IsPlain, IsNoRun, BeginsWithRun, Place, at_token, at_letter, at_brace, at_digit, letter_token, behind_token}
use Rattle.tera_script.specs.TextParts.{text_from, escape_at}
use Rattle.tera_script.specs.Readers.{behind}
use Rattle.tera_script.proofs.Fronts.{behind_nothing, behind_both, behind_found}
use Rattle.tera_script.proofs.Utf8.{utf8_tokens}

-- ---- what is read is spelled so

-- behind some bytes of a token stand the others, further tokens and a closing quote
pub record GoesOn (front bytes t rest : List ℕ) : Type 0 where
  pub inner : List ℕ
  pub spells : SpellsText (front ++ inner) t
  pub spelled : bytes ≡ inner ++ 34 ∷ rest

one_byte : (front : List ℕ) (b : ℕ) (bytes t rest : List ℕ) → GoesOn (front ++ b ∷ []) bytes t rest → GoesOn front (b ∷ bytes) t rest
one_byte front b bytes t rest g = record {
  inner = b ∷ g.inner;
  spells = rw append_assoc at g.spells;
  spelled = ap (λ xs. b ∷ xs) g.spelled;
}

last_byte : (p : Token) (front : List ℕ) (b : ℕ) (bytes t rest : List ℕ) → IsToken p → spelling p ≡ front ++ b ∷ []
    → behind (decoding p) (text_from bytes at_token) ≡ Some (t, rest) → ((u : List ℕ) → text_from bytes at_token ≡ Some (u, rest) → GoesOn [] bytes u rest)
    → GoesOn front (b ∷ bytes) t rest
last_byte p front b bytes t rest h is read goes_on =
    let found = behind_found (decoding p) (text_from bytes at_token) t rest read in
    let g = goes_on found.0 found.1 in
    let s = g.spells in
    one_byte front b bytes t rest (record {
      inner = g.inner;
      spells = (p ∷ s.0, (h, s.1), (λ i. sym is i ++ s.2 i), found.2 ∙ ap (λ xs. decoding p ++ xs) s.3);
      spelled = g.spelled;
    })

letter_is : (b : ℕ) (p : Token) → letter_token b ≡ Some p → IsToken p × (spelling p ≡ 92 ∷ b ∷ [])
letter_is b p e = grind (arith, nat_tests)

mutual
  unfolding text_from

  pub token_found : (bytes t rest : List ℕ) → text_from bytes at_token ≡ Some (t, rest) → GoesOn [] bytes t rest
  token_found [] t rest e = cc
  token_found (b ∷ bytes) t rest e =
      let h : ((b ≡ 34) × (t ≡ []) × (bytes ≡ rest)) ⊎ ((b ≡ 92) × (text_from bytes at_letter ≡ Some (t, rest)))
      ⊎ (IsPlain b × (behind (b ∷ []) (text_from bytes at_token) ≡ Some (t, rest))) = grind (arith, nat_tests) in
      elim h [
        | inl h ↦ record { inner = []; spells = ([], tt, refl, h.1); spelled = λ i. h.0 i ∷ h.2 i }
        | inr (inl h) ↦ rw (h.0) (one_byte [] 92 bytes t rest (letter_found bytes t rest h.1))
        | inr (inr h) ↦ last_byte (itself b) [] b bytes t rest h.0 refl h.1 (λ u. token_found bytes u rest)
      ]

  letter_found : (bytes t rest : List ℕ) → text_from bytes at_letter ≡ Some (t, rest) → GoesOn (92 ∷ []) bytes t rest
  letter_found [] t rest e = cc
  letter_found (b ∷ bytes) t rest e =
      let h : ((b ≡ 117) × (text_from bytes at_brace ≡ Some (t, rest)))
      ⊎ ((p : Token) × (letter_token b ≡ Some p) × (behind (decoding p) (text_from bytes at_token) ≡ Some (t, rest))) = grind (arith, nat_tests) in
      elim h [
        | inl h ↦ rw (h.0) (one_byte (92 ∷ []) 117 bytes t rest (brace_found bytes t rest h.1))
        | inr h ↦ let letter = letter_is b h.0 h.1 in last_byte h.0 (92 ∷ []) b bytes t rest letter.0 letter.1 h.2 (λ u. token_found bytes u rest)
      ]

  brace_found : (bytes t rest : List ℕ) → text_from bytes at_brace ≡ Some (t, rest) → GoesOn (92 ∷ 117 ∷ []) bytes t rest
  brace_found [] t rest e = cc
  brace_found (b ∷ bytes) t rest e =
      let h : (b ≡ 123) × (text_from bytes (at_digit 0 0) ≡ Some (t, rest)) = grind (arith, nat_tests) in
      rw (h.0) (one_byte (92 ∷ 117 ∷ []) 123 bytes t rest (digit_found bytes [] t rest tt (omega arith) h.1))

  digit_found : (bytes ds t rest : List ℕ) → AllDigits 16 ds → length ds ≤ 6
      → text_from bytes (at_digit (digits_value 16 ds) (length ds)) ≡ Some (t, rest) → GoesOn (92 ∷ 117 ∷ 123 ∷ ds) bytes t rest
  digit_found [] ds t rest all few e = cc
  digit_found (b ∷ bytes) ds t rest all few e =
      let n = digits_value 16 ds in
      let h : ((b ≡ 125) × (0 < length ds) × IsScalar n × (behind (encode_utf8 n) (text_from bytes at_token) ≡ Some (t, rest)))
      ⊎ ((digit_value b < 16) × (length ds < 6) × (text_from bytes (at_digit (n * 16 + digit_value b) (length ds + 1)) ≡ Some (t, rest))) =
      grind (arith, nat_tests) in
      elim h [
        | inl h ↦ rw (h.0) (last_byte (character ds) (92 ∷ 117 ∷ 123 ∷ ds) 125 bytes t rest (all, h.1, few, h.2) refl h.3 (λ u. token_found bytes u rest))
        | inr h ↦
            let longer : text_from bytes (at_digit (digits_value 16 (ds ++ b ∷ [])) (length (ds ++ b ∷ []))) ≡ Some (t, rest) =
            rw (digits_value_push 16 ds b, length-append ds (b ∷ [])) (h.2) in
            one_byte (92 ∷ 117 ∷ 123 ∷ ds) b bytes t rest
            (digit_found bytes (ds ++ b ∷ []) t rest (digits_push 16 ds b all h.0) (omega (arith, h.1, length-append ds (b ∷ []))) longer)
      ]

-- ---- what is spelled so is read

digits_read : (ds : List ℕ) (n count : ℕ) (bytes : List ℕ) → AllDigits 16 ds → count + length ds ≤ 6
    → text_from (ds ++ bytes) (at_digit n count) ≡ text_from bytes (at_digit (digits_value_after 16 n ds) (count + length ds))
unfolding text_from
digits_read [] n count bytes h few = rw (add-zero count) refl
digits_read (d ∷ ds) n count bytes h few =
    grind (arith, nat_tests, digits_read ds (n * 16 + digit_value d) (count + 1) bytes h.1 (omega (arith, few)))

token_read : (p : Token) (bytes : List ℕ) → IsToken p → text_from (spelling p ++ bytes) at_token ≡ behind (decoding p) (text_from bytes at_token)
unfolding text_from
token_read (itself b) bytes h = grind (arith, nat_tests, h)
token_read (character ds) bytes h =
    rw (append_assoc ds (125 ∷ []) bytes, digits_read ds 0 0 (125 ∷ bytes) h.0 (omega (arith, h.2))) (grind (arith, nat_tests, h.1, h.3))
token_read p bytes h = refl

tokens_read : (ps : List Token) (rest : List ℕ) → AllByRecursion IsToken ps
    → text_from (flat_map spelling ps ++ 34 ∷ rest) at_token ≡ Some (flat_map decoding ps, rest)
unfolding text_from
tokens_read [] rest h = refl
tokens_read (p ∷ ps) rest h =
    rw (append_assoc (spelling p) (flat_map spelling ps) (34 ∷ rest), token_read p (flat_map spelling ps ++ 34 ∷ rest) h.0, tokens_read ps rest h.1)

pub text_read : (inner t rest : List ℕ) → SpellsText inner t → text_from (inner ++ 34 ∷ rest) at_token ≡ Some (t, rest)
text_read inner t rest (ps, h, is, means) = rw (is, means) (tokens_read ps rest h)

pub text_found : (bytes t rest : List ℕ) → text_from bytes at_token ≡ Some (t, rest) → BeginsWithText bytes t (length bytes - length rest)
text_found bytes t rest e =
    let g = token_found bytes t rest e in
    (g.inner, rest, g.spells, g.spelled, omega (arith, ap length g.spelled, length-append g.inner (34 ∷ rest)))

pub no_text : {bytes t : List ℕ} {used : ℕ} → text_from bytes at_token ≡ None → BeginsWithText bytes t used → ⊥
no_text {bytes} {t} {used} none b = let found = text_read b.0 t b.1 b.2 in let is = b.3 in cc

pub spells_nothing : (inner t : List ℕ) → text_from (inner ++ 34 ∷ []) at_token ≡ None → SpellsText inner t → ⊥
spells_nothing inner t none p = let found = text_read inner t [] p in cc

pub one_reading : (inner other xs ys s t : List ℕ) → SpellsText inner s → SpellsText other t → inner ++ 34 ∷ xs ≡ other ++ 34 ∷ ys → (inner ≡ other) × (s ≡ t)
one_reading inner other xs ys s t p q e =
    let same = some_pair_parts s t xs ys (sym (text_read inner s xs p) ∙ ap (λ zs. text_from zs at_token) e ∙ text_read other t ys q) in
    (append_cancel_right inner other (34 ∷ ys) (ap (λ zs. inner ++ 34 ∷ zs) (sym same.1) ∙ e), same.0)

-- bytes begin with one text, and it takes one number of them
pub same_text : (bytes s t : List ℕ) (m n : ℕ) → BeginsWithText bytes s m → BeginsWithText bytes t n → (s ≡ t) × (m ≡ n)
same_text bytes s t m n p q =
    let same = one_reading p.0 q.0 p.1 q.1 s t p.2 q.2 (sym p.3 ∙ q.3) in
    (same.1, p.4 ∙ (ap (λ (inner : List ℕ). length inner + 1) same.0 ∙ sym q.4))

pub text_is_utf8 : (inner text : List ℕ) → SpellsText inner text → IsUtf8 inner → IsUtf8 text
text_is_utf8 inner text p u = subst IsUtf8 (sym p.3) (utf8_tokens [] p.0 p.1 (subst IsUtf8 p.2 u))

-- ---- the steps of the code

-- a run
pub run_found : (bytes : List ℕ) (n : ℕ) → n ≤ length bytes → ((k : ℕ) → k < n → IsPlain (get_or bytes k 0))
    → (n < length bytes → (get_or bytes n 0 ≡ 34) ⊎ (get_or bytes n 0 ≡ 92)) → BeginsWithRun bytes (take n bytes) (drop n bytes)
run_found [] zero within plain ends = (tt, refl, tt)
run_found [] (suc n) within plain ends = absurd (omega (arith, within))
run_found (b ∷ bytes) zero within plain ends = (tt, refl, ends (omega arith))
run_found (b ∷ bytes) (suc n) within plain ends =
    let more = run_found bytes n (omega (arith, within)) (λ k h. plain (suc k) (suc-le-suc h)) (λ h. ends (suc-le-suc h)) in
    ((plain 0 (omega arith), more.0), ap (λ xs. b ∷ xs) more.1, more.2)

run_read : (run bytes : List ℕ) → AllByRecursion IsPlain run → text_from (run ++ bytes) at_token ≡ behind run (text_from bytes at_token)
unfolding text_from
run_read [] bytes plain = sym (behind_nothing (text_from bytes at_token))
run_read (b ∷ run) bytes plain = let first = plain.0 in let more = run_read run bytes plain.1 in grind (arith, nat_tests, more, behind_both)

-- an escape, and then what stands behind it
abbrev IsInside : Place → Type 0
IsInside at_token = ⊥
IsInside place = Unit {0}

abbrev then_text : Option (List ℕ × List ℕ) → Option (List ℕ × List ℕ)
then_text read = option_and_then (λ found. behind found.0 (text_from found.1 at_token)) read

cond_then : (c : Bool) (x y : Option (List ℕ × List ℕ)) {s t : Option (List ℕ × List ℕ)} → s ≡ then_text x → t ≡ then_text y
    → cond c s t ≡ then_text (cond c x y)
cond_then true x y h g = h
cond_then false x y h g = g

letter_then : (found : Option Token) (bytes : List ℕ)
    → behind_token found (text_from bytes at_token) ≡ then_text (option_map (λ token. (decoding token, bytes)) found)
letter_then None bytes = refl
letter_then (Some token) bytes = refl

escapes : (bytes : List ℕ) (place : Place) → IsInside place → text_from bytes place ≡ then_text (escape_at bytes place)
unfolding text_from escape_at
escapes [] place inside = refl
escapes (b ∷ bytes) at_token inside = absurd inside
escapes (b ∷ bytes) at_letter inside = cond_then (b == 117) _ _ (escapes bytes at_brace tt) (letter_then (letter_token b) bytes)
escapes (b ∷ bytes) at_brace inside = cond_then (b == 123) _ _ (escapes bytes (at_digit 0 0) tt) refl
escapes (b ∷ bytes) (at_digit n count) inside =
    cond_then ((b == 125) && nat_lt 0 count) _ _ (cond_then (scalar n) _ _ refl refl)
    (cond_then (nat_lt (digit_value b) 16 && nat_lt count 6) _ _ (escapes bytes (at_digit (n * 16 + digit_value b) (count + 1)) tt) refl)

-- what stands behind a run, if it is no closing quote, is a backslash
letter_next : {rest after : List ℕ} {byte : ℕ} → rest ≡ byte ∷ after → IsNoRun rest → byte ≢ 34
    → text_from rest at_token ≡ then_text (escape_at after at_letter)
unfolding text_from
letter_next {rest} {after} {byte} e ends unclosed =
    let run : IsNoRun (byte ∷ after) = subst IsNoRun e ends in let is : byte ≡ 92 = omega arith in
    rw (e, is) (escapes after at_letter tt)

-- the number of an escape's digits fits 32 bits
pub powers : (place : ℕ) → (16 ^ place ≡ 16 ^ place) × (place ≤ 5 → 16 ^ place ≤ 16 ^ 5)
powers place = (refl, λ short. pow-le-pow_right {n = 16} (omega arith) short)

-- what is decoded with a run more, and then what the rest gives, is what all bytes give
module _ (before run rest old decoded bytes : List ℕ) (r : BeginsWithRun before run rest) (is : decoded ≡ old ++ run)
    (was : behind old (text_from before at_token) ≡ text_from bytes at_token)
  where
    read : behind decoded (text_from rest at_token) ≡ text_from bytes at_token
    read = rw (is, ← was, r.1) (sym (behind_both old run (text_from rest at_token)) ∙ ap (behind old) (sym (run_read run rest r.0)))

    pub stopped : text_from rest at_token ≡ None → (text : List ℕ) (used : ℕ) → BeginsWithText bytes text used → ⊥
    stopped none text used b = no_text (sym read ∙ ap (behind decoded) none) b

    pub read_whole : {after : List ℕ} {byte : ℕ} → rest ≡ byte ∷ after → byte ≡ 34 → text_from bytes at_token ≡ Some (decoded, after)
    unfolding text_from
    read_whole e is = sym read ∙ rw (e, is, append-nil decoded) refl

    pub closed : {after : List ℕ} {byte : ℕ} → rest ≡ byte ∷ after → byte ≡ 34 → BeginsWithText bytes decoded (length bytes - length after)
    closed {after} e is = text_found bytes decoded after (read_whole e is)

    pub no_escape : {after : List ℕ} {byte : ℕ} → rest ≡ byte ∷ after → byte ≢ 34 → None ≡ escape_at after at_letter → (text : List ℕ) (used : ℕ)
        → BeginsWithText bytes text used → ⊥
    no_escape e unclosed none = stopped (letter_next e r.2 unclosed ∙ ap then_text (sym none))

    pub escaped : (next : List ℕ) (c : ℕ) {after : List ℕ} {byte : ℕ} → rest ≡ byte ∷ after → byte ≢ 34 → Some (encode_utf8 c, next) ≡ escape_at after at_letter
        → behind (decoded ++ encode_utf8 c) (text_from next at_token) ≡ text_from bytes at_token
    escaped next c e unclosed found =
        sym (behind_both decoded (encode_utf8 c) (text_from next at_token))
        ∙ ap (behind decoded) (sym (letter_next e r.2 unclosed ∙ ap then_text (sym found))) ∙ read

-- a run and the quote that closes it
pub plain_spelling : (run : List ℕ) → AllByRecursion IsPlain run → SpellsText run run
plain_spelling [] h = ([], tt, refl, refl)
plain_spelling (b ∷ run) h =
    let more = plain_spelling run h.1 in
    (itself b ∷ more.0, (h.0, more.1), ap (λ xs. b ∷ xs) more.2, ap (λ xs. b ∷ xs) more.3)

pub run_closed : {bytes run rest after : List ℕ} → BeginsWithRun bytes run rest → rest ≡ 34 ∷ after → BeginsWithText bytes run (length run + 1)
run_closed {bytes} {run} {rest} {after} r e = (run, after, plain_spelling run r.0, r.1 ∙ ap (λ xs. run ++ xs) e, refl)
