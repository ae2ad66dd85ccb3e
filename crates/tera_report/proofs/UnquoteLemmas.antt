-- A quoted text is read back byte by byte, so it stands for one text.
use Rattle.std.proofs.Common.{map, if◌then◌else◌, ◌≡◌, ℕ, ◌+◌, ◌*◌, ◌/◌, ◌%◌, ◌<◌, ◌≤◌, nat_lt, Bool, true, false, ◌&&◌, ◌==◌, cond, List, [], ◌∷◌, ◌++◌}
use Rattle.std.proofs.Common.{bytes_eq, refl, sym, ap, ◌∙◌, arith, ne_eqb, append_assoc, append-nil, ltb-true, ⊎_elim}
use Rattle.std.proofs.lemmas.Bool.{cond_both, and_parts, agree_below_at, cases_lt, eqb-true}
use Rattle.std.proofs.lemmas.List.{append_cancel_right}
use Rattle.std.specs.Char.{encode_utf8, digit_char, digit_value}
use Rattle.std.specs.Char.Escape.{escape_unicode}
use Rattle.std.specs.Cmp.Lexicographic.{bytes_decides}
use Rattle.std.specs.Fmt.{debug_escape, digits}
use Rattle.std.specs.List.{flat_map, AllByRecursion}
use lib.Utf8.{scalar_cases}
use Rattle.tera_report.specs.Quoted.{Quotes, Escapes, QuotedPart, by_rule, by_code, IsQuotedPart, part_bytes, part_shown}
use Rattle.tera_report.proofs.QuoteLaws.{escape_past}

-- what the reader knows: nothing, that a backslash came, or the code so far
data Reading : Type 0 where
  bare : Reading
  behind : Reading
  in_code : ℕ → Reading

-- the byte that a letter behind a backslash stands for
abbrev letter : ℕ → ℕ
letter b = if b == 48 then 0 else (if b == 116 then 9 else (if b == 110 then 10 else (if b == 114 then 13 else b)))

-- the bytes that one byte brings, and what is known after it
abbrev step : Reading → ℕ → List ℕ × Reading
step bare b = if b == 92 then ([], behind) else (b ∷ [], bare)
step behind b = if b == 117 then ([], in_code 0) else (letter b ∷ [], bare)
step (in_code n) b =
    if b == 123 then ([], in_code n) else (if b == 125 then (encode_utf8 n, bare) else ([], in_code (n * 16 + digit_value b)))

abbrev read : Reading → List ℕ → List ℕ
read s [] = []
read s (b ∷ bs) = (step s b).0 ++ read (step s b).1 bs

abbrev after : Reading → List ℕ → Reading
after s [] = s
after s (b ∷ bs) = after (step s b).1 bs

read_on : (s : Reading) (xs ys : List ℕ) → read s (xs ++ ys) ≡ read s xs ++ read (after s xs) ys
read_on s [] ys = refl
read_on s (b ∷ bs) ys =
    ap (λ l. (step s b).0 ++ l) (read_on (step s b).1 bs ys)
    ∙ sym (append_assoc (step s b).0 (read (step s b).1 bs) (read (after (step s b).1 bs) ys))

abbrev is_bare : Reading → Bool
is_bare bare = true
is_bare behind = false
is_bare (in_code n) = false

bare_from : (s : Reading) → is_bare s ≡ true → s ≡ bare
bare_from bare e = refl
bare_from behind e = absurd (cc)
bare_from (in_code n) e = absurd (cc)

-- these bytes are read as the original, and nothing is left open
abbrev ReadsAs : List ℕ → List ℕ → Type 0
ReadsAs original shown = (read bare shown ≡ original) × (after bare shown ≡ bare)

-- ---- a byte by its rule

rule_reads : (b : ℕ) → ReadsAs (b ∷ []) (debug_escape 34 b)
unfolding debug_escape digits encode_utf8
rule_reads b = ⊎_elim low past (cases_lt b 128)
  where
    low : b < 128 → ReadsAs (b ∷ []) (debug_escape 34 b)
    low h =
        let all =
        agree_below_at (λ n. bytes_eq (read bare (debug_escape 34 n)) (n ∷ []) && is_bare (after bare (debug_escape 34 n))) (λ _. true) 128 b refl h in
        let parts = and_parts (bytes_eq (read bare (debug_escape 34 b)) (b ∷ [])) (is_bare (after bare (debug_escape 34 b))) all in
        ((bytes_decides _ _).0 parts.0, bare_from (after bare (debug_escape 34 b)) parts.1)

    past : 128 ≤ b → ReadsAs (b ∷ []) (debug_escape 34 b)
    past h =
        let is = escape_past b (omega arith) in
        let other = ne_eqb b 92 (λ e. omega arith) in
        let next : step bare b ≡ (b ∷ [], bare) = ap (λ q. if q then ([], behind) else (b ∷ [], bare)) other in (
          ap (read bare) is ∙ ap (λ (t : List ℕ × Reading). t.0 ++ read t.1 []) next,
          ap (after bare) is ∙ ap (λ (t : List ℕ × Reading). t.1) next,
        )

-- ---- the code of a character

hex_step : (n d : ℕ) → d < 16 → step (in_code n) (digit_char d) ≡ ([], in_code (n * 16 + d))
hex_step n d h =
    let open' = agree_below_at (λ d. digit_char d == 123) (λ _. false) 16 d refl h in
    let close = agree_below_at (λ d. digit_char d == 125) (λ _. false) 16 d refl h in
    let value = eqb-true (digit_value (digit_char d)) d (agree_below_at (λ d. digit_value (digit_char d) == d) (λ _. true) 16 d refl h) in
    rw (open', close, value) refl

-- the number of these digits behind n
abbrev number : ℕ → List ℕ → ℕ
number n [] = n
number n (d ∷ ds) = number (n * 16 + d) ds

abbrev AreDigits : List ℕ → Type 0
AreDigits ds = AllByRecursion (λ d. d < 16) ds

digits_read : (n : ℕ) (ds : List ℕ) → AreDigits ds
    → (read (in_code n) (map digit_char ds ++ 125 ∷ []) ≡ encode_utf8 (number n ds)) × (after (in_code n) (map digit_char ds ++ 125 ∷ []) ≡ bare)
digits_read n [] all = (append-nil (encode_utf8 n), refl)
digits_read n (d ∷ ds) all =
    let next = hex_step n d all.0 in
    let rest = map digit_char ds ++ 125 ∷ [] in
    let others = digits_read (n * 16 + d) ds all.1 in
    (ap (λ (t : List ℕ × Reading). t.0 ++ read t.1 rest) next ∙ others.0, ap (λ (t : List ℕ × Reading). after t.1 rest) next ∙ others.1)

code_of : (c : ℕ) (ds : List ℕ) → AreDigits ds → number 0 ds ≡ c → ReadsAs (encode_utf8 c) (92 ∷ 117 ∷ 123 ∷ (map digit_char ds ++ 125 ∷ []))
code_of c ds all is = let told = digits_read 0 ds all in (told.0 ∙ ap encode_utf8 is, told.1)

unicode_reads : (c : ℕ) → c < 16777216 → ReadsAs (encode_utf8 c) (escape_unicode c)
unicode_reads c small =
    let n0 = c / 1 % 16 in
    let n1 = c / 0x10 % 16 in
    let n2 = c / 0x100 % 16 in
    let n3 = c / 0x1000 % 16 in
    let n4 = c / 0x1_0000 % 16 in
    let n5 = c / 0x10_0000 % 16 in
    let a0 : AreDigits (n0 ∷ []) = (omega arith, tt) in
    let a1 : AreDigits (n1 ∷ n0 ∷ []) = (omega arith, a0) in
    let a2 : AreDigits (n2 ∷ n1 ∷ n0 ∷ []) = (omega arith, a1) in
    let a3 : AreDigits (n3 ∷ n2 ∷ n1 ∷ n0 ∷ []) = (omega arith, a2) in
    let a4 : AreDigits (n4 ∷ n3 ∷ n2 ∷ n1 ∷ n0 ∷ []) = (omega arith, a3) in
    let a5 : AreDigits (n5 ∷ n4 ∷ n3 ∷ n2 ∷ n1 ∷ n0 ∷ []) = (omega arith, a4) in
    let t0 : number (c / 0x10) (n0 ∷ []) ≡ c = omega arith in
    let s1 : c / 0x100 * 16 + n1 ≡ c / 0x10 = omega arith in
    let t1 : number (c / 0x100) (n1 ∷ n0 ∷ []) ≡ c = ap (λ n. number n (n0 ∷ [])) s1 ∙ t0 in
    let s2 : c / 0x1000 * 16 + n2 ≡ c / 0x100 = omega arith in
    let t2 : number (c / 0x1000) (n2 ∷ n1 ∷ n0 ∷ []) ≡ c = ap (λ n. number n (n1 ∷ n0 ∷ [])) s2 ∙ t1 in
    let s3 : c / 0x1_0000 * 16 + n3 ≡ c / 0x1000 = omega arith in
    let t3 : number (c / 0x1_0000) (n3 ∷ n2 ∷ n1 ∷ n0 ∷ []) ≡ c = ap (λ n. number n (n2 ∷ n1 ∷ n0 ∷ [])) s3 ∙ t2 in
    let s4 : c / 0x10_0000 * 16 + n4 ≡ c / 0x1_0000 = omega arith in
    let t4 : number (c / 0x10_0000) (n4 ∷ n3 ∷ n2 ∷ n1 ∷ n0 ∷ []) ≡ c = ap (λ n. number n (n3 ∷ n2 ∷ n1 ∷ n0 ∷ [])) s4 ∙ t3 in
    let x0 = 92 ∷ 117 ∷ 123 ∷ (map digit_char (n0 ∷ []) ++ 125 ∷ []) in
    let x1 = 92 ∷ 117 ∷ 123 ∷ (map digit_char (n1 ∷ n0 ∷ []) ++ 125 ∷ []) in
    let x2 = 92 ∷ 117 ∷ 123 ∷ (map digit_char (n2 ∷ n1 ∷ n0 ∷ []) ++ 125 ∷ []) in
    let x3 = 92 ∷ 117 ∷ 123 ∷ (map digit_char (n3 ∷ n2 ∷ n1 ∷ n0 ∷ []) ++ 125 ∷ []) in
    let x4 = 92 ∷ 117 ∷ 123 ∷ (map digit_char (n4 ∷ n3 ∷ n2 ∷ n1 ∷ n0 ∷ []) ++ 125 ∷ []) in
    let x5 = 92 ∷ 117 ∷ 123 ∷ (map digit_char (n5 ∷ n4 ∷ n3 ∷ n2 ∷ n1 ∷ n0 ∷ []) ++ 125 ∷ []) in
    let y5 = x5 in
    let y4 = cond (nat_lt c 0x10_0000) x4 y5 in
    let y3 = cond (nat_lt c 0x1_0000) x3 y4 in
    let y2 = cond (nat_lt c 0x1000) x2 y3 in
    let y1 = cond (nat_lt c 0x100) x1 y2 in
    cond_both (nat_lt c 0x10) x0 y1 (ReadsAs (encode_utf8 c))
    (λ e. let z : 0 * 16 + n0 ≡ c = omega (arith, ltb-true c 0x10 e) in code_of c (n0 ∷ []) a0 z)
    (λ _. cond_both (nat_lt c 0x100) x1 y2 (ReadsAs (encode_utf8 c))
    (λ e. let z : 0 * 16 + n1 ≡ c / 0x10 = omega (arith, ltb-true c 0x100 e) in code_of c (n1 ∷ n0 ∷ []) a1 (ap (λ n. number n (n0 ∷ [])) z ∙ t0))
    (λ _. cond_both (nat_lt c 0x1000) x2 y3 (ReadsAs (encode_utf8 c))
    (λ e. let z : 0 * 16 + n2 ≡ c / 0x100 = omega (arith, ltb-true c 0x1000 e) in code_of c (n2 ∷ n1 ∷ n0 ∷ []) a2 (ap (λ n. number n (n1 ∷ n0 ∷ [])) z ∙ t1))
    (λ _. cond_both (nat_lt c 0x1_0000) x3 y4 (ReadsAs (encode_utf8 c))
    (λ e. let z : 0 * 16 + n3 ≡ c / 0x1000 = omega (arith, ltb-true c 0x1_0000 e) in
    code_of c (n3 ∷ n2 ∷ n1 ∷ n0 ∷ []) a3 (ap (λ n. number n (n2 ∷ n1 ∷ n0 ∷ [])) z ∙ t2))
    (λ _. cond_both (nat_lt c 0x10_0000) x4 y5 (ReadsAs (encode_utf8 c))
    (λ e. let z : 0 * 16 + n4 ≡ c / 0x1_0000 = omega (arith, ltb-true c 0x10_0000 e) in
    code_of c (n4 ∷ n3 ∷ n2 ∷ n1 ∷ n0 ∷ []) a4 (ap (λ n. number n (n3 ∷ n2 ∷ n1 ∷ n0 ∷ [])) z ∙ t3))
    (λ _. let z : 0 * 16 + n5 ≡ c / 0x10_0000 = omega (arith, small) in
    code_of c (n5 ∷ n4 ∷ n3 ∷ n2 ∷ n1 ∷ n0 ∷ []) a5 (ap (λ n. number n (n4 ∷ n3 ∷ n2 ∷ n1 ∷ n0 ∷ [])) z ∙ t4))))))

-- ---- whole texts

part_reads : (part : QuotedPart) → IsQuotedPart part → ReadsAs (part_bytes part) (part_shown part)
part_reads (by_rule b) proper = rule_reads b
part_reads (by_code c) proper = unicode_reads c (⊎_elim (λ h. omega (arith, h)) (λ h. omega (arith, h.1)) (scalar_cases c proper.1))

parts_read : (parts : List QuotedPart) (ys : List ℕ) → AllByRecursion IsQuotedPart parts
    → read bare (flat_map part_shown parts ++ ys) ≡ flat_map part_bytes parts ++ read bare ys
parts_read [] ys all = refl
parts_read (p ∷ ps) ys all =
    let told = part_reads p all.0 in
    let rest = flat_map part_shown ps ++ ys in
    ap (read bare) (append_assoc (part_shown p) (flat_map part_shown ps) ys)
    ∙ read_on bare (part_shown p) rest
    ∙ (λ i. told.0 i ++ read (told.1 i) rest)
    ∙ ap (λ l. part_bytes p ++ l) (parts_read ps ys all.1)
    ∙ sym (append_assoc (part_bytes p) (flat_map part_bytes ps) (read bare ys))

quote_reads : (text shown : List ℕ) → Escapes text shown → read bare (shown ++ 34 ∷ []) ≡ text ++ 34 ∷ []
quote_reads text shown h =
    ap (λ l. read bare (l ++ 34 ∷ [])) (sym h.escaped) ∙ parts_read h.parts (34 ∷ []) h.proper ∙ ap (λ l. l ++ 34 ∷ []) h.joined

pub one_original : (text other bytes : List ℕ) → Quotes text bytes → Quotes other bytes → text ≡ other
one_original text other bytes (shown, stands, is) (second, stands', is') =
    let both : 34 ∷ (shown ++ 34 ∷ []) ≡ 34 ∷ (second ++ 34 ∷ []) = sym is ∙ is' in
    let same : shown ++ 34 ∷ [] ≡ second ++ 34 ∷ [] = cc in
    append_cancel_right text other (34 ∷ []) (sym (quote_reads text shown stands) ∙ ap (read bare) same ∙ quote_reads other second stands')
