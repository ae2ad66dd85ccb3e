-- What stands for a text that is quoted, and for a list of texts.
use Rattle.std.proofs.Common.{map, None, Some, if◌then◌else◌, ◌≡◌, ℕ, ◌+◌, ◌-◌, ◌/◌, ◌%◌, ◌<◌, ◌≤◌, nat_lt, Bool, true, false, not, ◌&&◌, ◌==◌}
use Rattle.std.proofs.Common.{IsTrue, cond, List, [], ◌∷◌, ◌++◌, length, refl, sym, ap, subst, ◌∙◌, arith, ne_eqb, append_assoc, ltb-true, le-ltb}
use Rattle.std.proofs.Common.{⊎_elim, encode_utf8_all}
use Rattle.std.proofs.lemmas.Bool.{cond_both, and_parts, agree_below_at, cases_lt}
use Rattle.std.proofs.lemmas.Bool.Decides.{nat_tests}
use Rattle.std.proofs.lemmas.List.Concat.{flat_map-append}
use Rattle.std.proofs.lemmas.List.Folds.{list_all-append}
use Rattle.std.proofs.lemmas.Str.{encode_ascii, length-encode, len_utf8_bounds}
use Rattle.std.specs.Char.{encode_utf8, is_ascii, digit_char}
use Rattle.std.specs.Char.Escape.{escape_unicode, hex_digit_at}
use Rattle.std.specs.Fmt.{◌++?◌, debug_escape, debug_str, debug_items, debug_list, comma_space, digits}
use Rattle.std.specs.List.{list_all, flat_map, AllByRecursion}
use Rattle.tera_report.specs.Quoted.{IsText, is_ascii_text, escapes, quoted, Quotes, QuotesItems, QuotesList, Escapes, QuotedPart, by_rule, by_code}
use Rattle.tera_report.specs.Quoted.{IsQuotedPart, part_bytes, part_shown, is_control, closes}
use Rattle.tera_report.specs.inner.Quoted.{is_marked}
use Rattle.tera_report.proofs.PutLaws.{texts_joined}

-- a byte that is not marked stands for itself
pub plain_bounds : (b : ℕ) → is_marked b ≡ false → (32 ≤ b) × (b < 127)
plain_bounds b h = (grind (arith, nat_tests), grind (arith, nat_tests))

-- ---- what stands for each byte, each character and each text

-- a byte past ASCII stands for itself
pub escape_past : (b : ℕ) → 127 < b → debug_escape 34 b ≡ b ∷ []
unfolding debug_escape
escape_past b h = rw (
  ne_eqb b 34 (λ e. omega arith),
  ne_eqb b 0 (λ e. omega arith),
  ne_eqb b 9 (λ e. omega arith),
  ne_eqb b 10 (λ e. omega arith),
  ne_eqb b 13 (λ e. omega arith),
  ne_eqb b 92 (λ e. omega arith),
  ne_eqb b 127 (λ e. omega arith),
  le-ltb b 32 (omega arith),
) refl

-- each byte of a character past ASCII is past ASCII
abbrev ArePast : List ℕ → Type 0
ArePast bytes = AllByRecursion (λ b. 127 < b) bytes

encode_past : (c : ℕ) → 127 < c → ArePast (encode_utf8 c)
unfolding encode_utf8
encode_past c h =
    let last = 128 + c % 64 in
    let middle = 128 + (c / 64) % 64 in
    let two : ArePast ((192 + c / 64) ∷ last ∷ []) = (omega arith, (omega arith, tt)) in
    let three : ArePast ((224 + c / 4096) ∷ middle ∷ last ∷ []) = (omega arith, (omega arith, (omega arith, tt))) in
    let four : ArePast ((240 + c / 262144) ∷ (128 + (c / 4096) % 64) ∷ middle ∷ last ∷ []) =
    (omega arith, (omega arith, (omega arith, (omega arith, tt)))) in
    let x2 = (192 + c / 64) ∷ last ∷ [] in
    let x3 = (224 + c / 4096) ∷ middle ∷ last ∷ [] in
    let x4 = (240 + c / 262144) ∷ (128 + (c / 4096) % 64) ∷ middle ∷ last ∷ [] in
    let y3 = cond (nat_lt c 65536) x3 x4 in
    let y2 = cond (nat_lt c 2048) x2 y3 in
    cond_both (nat_lt c 128) (c ∷ []) y2 ArePast (λ e. (h, tt))
    (λ _. cond_both (nat_lt c 2048) x2 y3 ArePast (λ _. two) (λ _. cond_both (nat_lt c 65536) x3 x4 ArePast (λ _. three) (λ _. four)))

escapes_past : (bytes : List ℕ) → ArePast bytes → escapes bytes ≡ bytes
escapes_past [] past = refl
escapes_past (b ∷ bs) past =
    let first = escape_past b past.0 in
    let others = escapes_past bs past.1 in
    cc

-- a character past ASCII may stand for itself
pub escapes_char : (c : ℕ) → 127 < c → escapes (encode_utf8 c) ≡ encode_utf8 c
escapes_char c h = escapes_past (encode_utf8 c) (encode_past c h)

-- each byte by its rule
pub escapes_by_rule : (text : List ℕ) → Escapes text (escapes text)
escapes_by_rule text = record { parts = map by_rule text; proper = proper text; joined = joined text; escaped = escaped text }
  where
    proper : (text : List ℕ) → AllByRecursion IsQuotedPart (map by_rule text)
    proper [] = tt
    proper (b ∷ bs) = (tt, proper bs)

    joined : (text : List ℕ) → flat_map part_bytes (map by_rule text) ≡ text
    joined [] = refl
    joined (b ∷ bs) = ap (λ l. b ∷ l) (joined bs)

    escaped : (text : List ℕ) → flat_map part_shown (map by_rule text) ≡ escapes text
    escaped [] = refl
    escaped (b ∷ bs) = ap (λ l. debug_escape 34 b ++ l) (escaped bs)

-- a text that its escapes are may stand for itself
pub escapes_itself : (text : List ℕ) → escapes text ≡ text → Escapes text text
escapes_itself text plain = subst (Escapes text) plain (escapes_by_rule text)

all_append : {X : Type 0} (P : X → Type 0) (xs ys : List X) → AllByRecursion P xs → AllByRecursion P ys → AllByRecursion P (xs ++ ys)
all_append P [] ys a b = b
all_append P (x ∷ xs) ys a b = (a.0, all_append P xs ys a.1 b)

-- one text after another
pub escapes_joined : (s t a b : List ℕ) → Escapes s a → Escapes t b → Escapes (s ++ t) (a ++ b)
escapes_joined s t a b p q = record {
  parts = p.parts ++ q.parts;
  proper = all_append IsQuotedPart p.parts q.parts p.proper q.proper;
  joined = flat_map-append part_bytes p.parts q.parts ∙ (λ i. p.joined i ++ q.joined i);
  escaped = flat_map-append part_shown p.parts q.parts ∙ (λ i. p.escaped i ++ q.escaped i);
}

-- ---- the code of a character

-- no byte of a code is marked but its backslash
abbrev ArePlain : List ℕ → Type 0
ArePlain bytes = AllByRecursion (λ b. is_marked b ≡ false) bytes

hex_plain : (p c : ℕ) → is_marked (hex_digit_at p c) ≡ false
hex_plain p c = agree_below_at (λ d. is_marked (digit_char d)) (λ _. false) 16 (c / p % 16) refl (omega arith)

-- a backslash and a `u`, and bytes that are not marked
IsCode : List ℕ → Type 0
IsCode bytes = (digits : List ℕ) × ArePlain digits × (bytes ≡ 92 ∷ 117 ∷ digits)

code : (digits : List ℕ) → ArePlain digits → IsCode (92 ∷ 117 ∷ digits)
unfolding IsCode
code digits plain = (digits, plain, refl)

either : (b : Bool) (x y : List ℕ) → IsCode x → IsCode y → IsCode (cond b x y)
either true x y p q = p
either false x y p q = q

code_plain : (c : ℕ) → IsCode (escape_unicode c)
code_plain c =
    let h1 = hex_digit_at 1 c in
    let h2 = hex_digit_at 0x10 c in
    let h3 = hex_digit_at 0x100 c in
    let h4 = hex_digit_at 0x1000 c in
    let h5 = hex_digit_at 0x1_0000 c in
    let h6 = hex_digit_at 0x10_0000 c in
    let d1 = hex_plain 1 c in
    let d2 = hex_plain 0x10 c in
    let d3 = hex_plain 0x100 c in
    let d4 = hex_plain 0x1000 c in
    let d5 = hex_plain 0x1_0000 c in
    let d6 = hex_plain 0x10_0000 c in
    let x1 = 92 ∷ 117 ∷ 123 ∷ h1 ∷ 125 ∷ [] in
    let x2 = 92 ∷ 117 ∷ 123 ∷ h2 ∷ h1 ∷ 125 ∷ [] in
    let x3 = 92 ∷ 117 ∷ 123 ∷ h3 ∷ h2 ∷ h1 ∷ 125 ∷ [] in
    let x4 = 92 ∷ 117 ∷ 123 ∷ h4 ∷ h3 ∷ h2 ∷ h1 ∷ 125 ∷ [] in
    let x5 = 92 ∷ 117 ∷ 123 ∷ h5 ∷ h4 ∷ h3 ∷ h2 ∷ h1 ∷ 125 ∷ [] in
    let x6 = 92 ∷ 117 ∷ 123 ∷ h6 ∷ h5 ∷ h4 ∷ h3 ∷ h2 ∷ h1 ∷ 125 ∷ [] in
    let y6 = x6 in
    let y5 = cond (nat_lt c 0x10_0000) x5 y6 in
    let y4 = cond (nat_lt c 0x1_0000) x4 y5 in
    let y3 = cond (nat_lt c 0x1000) x3 y4 in
    let y2 = cond (nat_lt c 0x100) x2 y3 in
    let p1 = code (123 ∷ h1 ∷ 125 ∷ []) (refl, (d1, (refl, tt))) in
    let p2 = code (123 ∷ h2 ∷ h1 ∷ 125 ∷ []) (refl, (d2, (d1, (refl, tt)))) in
    let p3 = code (123 ∷ h3 ∷ h2 ∷ h1 ∷ 125 ∷ []) (refl, (d3, (d2, (d1, (refl, tt))))) in
    let p4 = code (123 ∷ h4 ∷ h3 ∷ h2 ∷ h1 ∷ 125 ∷ []) (refl, (d4, (d3, (d2, (d1, (refl, tt)))))) in
    let p5 = code (123 ∷ h5 ∷ h4 ∷ h3 ∷ h2 ∷ h1 ∷ 125 ∷ []) (refl, (d5, (d4, (d3, (d2, (d1, (refl, tt))))))) in
    let p6 = code (123 ∷ h6 ∷ h5 ∷ h4 ∷ h3 ∷ h2 ∷ h1 ∷ 125 ∷ []) (refl, (d6, (d5, (d4, (d3, (d2, (d1, (refl, tt)))))))) in
    either (nat_lt c 0x10) x1 y2 p1
    (either (nat_lt c 0x100) x2 y3 p2
    (either (nat_lt c 0x1000) x3 y4 p3 (either (nat_lt c 0x1_0000) x4 y5 p4 (either (nat_lt c 0x10_0000) x5 y6 p5 p6))))

encodes_plain : (bytes : List ℕ) → ArePlain bytes → encode_utf8_all bytes ≡ bytes
encodes_plain [] plain = refl
encodes_plain (b ∷ bs) plain = (λ i. encode_ascii b (omega (arith, (plain_bounds b plain.0).1)) i ++ encodes_plain bs plain.1 i)

pub encodes_code : (c : ℕ) → encode_utf8_all (escape_unicode c) ≡ escape_unicode c
unfolding IsCode encode_utf8
encodes_code c = let (digits, plain, is) = code_plain c in ap encode_utf8_all is ∙ (λ i. 92 ∷ 117 ∷ encodes_plain digits plain i) ∙ sym is

-- ---- texts between quotes, and lists of them

pub quotes_by_rule : (text : List ℕ) → Quotes text (quoted text)
quotes_by_rule text = (escapes text, escapes_by_rule text, refl)

pub some_items : (lead : List ℕ) (texts : List (List ℕ)) → (bytes : List ℕ) × QuotesItems lead texts bytes
some_items lead [] = ([], refl)
some_items lead (text ∷ texts) =
    let others = some_items comma_space texts in
    (lead ++ (quoted text ++ others.0), (quoted text, others.0, quotes_by_rule text, others.1, refl))

pub some_list : (texts : List (List ℕ)) → (bytes : List ℕ) × QuotesList texts bytes
some_list texts = let items = some_items [] texts in (91 ∷ (items.0 ++ 93 ∷ []), (items.0, items.1, refl))

-- a part of an ASCII text is a byte
ascii_parts : (parts : List QuotedPart) → AllByRecursion IsQuotedPart parts → IsTrue (is_ascii_text (flat_map part_bytes parts))
    → flat_map part_shown parts ≡ escapes (flat_map part_bytes parts)
ascii_parts [] proper ascii = refl
ascii_parts (by_rule b ∷ parts) proper ascii =
    ap (λ l. debug_escape 34 b ++ l) (ascii_parts parts proper.1 (and_parts (is_ascii b) _ ascii).1)
ascii_parts (by_code c ∷ parts) proper ascii =
    let whole = sym (list_all-append is_ascii (encode_utf8 c) (flat_map part_bytes parts)) ∙ ascii in
    let some : 0 < length (encode_utf8 c) = omega (arith, length-encode c, (len_utf8_bounds c).0) in
    absurd (not_ascii (encode_utf8 c) (encode_past c proper.0.0) some (and_parts (is_ascii_text (encode_utf8 c)) _ whole).0)
  where
    not_ascii : (bytes : List ℕ) → ArePast bytes → 0 < length bytes → IsTrue (is_ascii_text bytes) → ⊥
    not_ascii [] past some ascii = absurd (omega arith)
    not_ascii (b ∷ bs) past some ascii = absurd (omega (arith, ltb-true b 128 (and_parts (is_ascii b) _ ascii).0, past.0))

-- an ASCII text has one quoting
pub one_quoting : (text bytes : List ℕ) → IsTrue (is_ascii_text text) → Quotes text bytes → bytes ≡ quoted text
one_quoting text bytes ascii (shown, stands, is) =
    let same : shown ≡ escapes text =
    sym stands.escaped ∙ ascii_parts stands.parts stands.proper (subst (λ l. IsTrue (is_ascii_text l)) (sym stands.joined) ascii)
    ∙ ap escapes stands.joined in
    is ∙ ap (λ l. 34 ∷ (l ++ 34 ∷ [])) same

-- what stands for a quoted text is its debug form, where that is known
known_if : (b : Bool) (known bytes : List ℕ) → (b ≡ true → bytes ≡ known) → IsText (if b then Some known else None) bytes
known_if true known bytes h = h refl
known_if false known bytes h = tt

quoted_known : (text bytes : List ℕ) → Quotes text bytes → IsText (debug_str text) bytes
quoted_known text bytes stands = known_if (list_all is_ascii text) (quoted text) bytes (λ ascii. one_quoting text bytes ascii stands)

items_known : (lead : List ℕ) (texts : List (List ℕ)) (bytes : List ℕ) → QuotesItems lead texts bytes → IsText (debug_items debug_str lead texts) bytes
items_known lead [] bytes stands = stands
items_known lead (text ∷ texts) bytes (first, others, one, rest, is) =
    let behind = debug_items debug_str comma_space texts in
    subst (IsText (debug_items debug_str lead (text ∷ texts))) (sym is)
    (texts_joined (Some lead) (debug_str text ++? behind) lead (first ++ others) refl
    (texts_joined (debug_str text) behind first others (quoted_known text first one) (items_known comma_space texts others rest)))

pub list_known : (texts : List (List ℕ)) (bytes : List ℕ) → QuotesList texts bytes → IsText (debug_list debug_str texts) bytes
list_known texts bytes (items, stand, is) =
    let known = debug_items debug_str [] texts in
    subst (IsText (debug_list debug_str texts)) (sym is)
    (texts_joined (Some (91 ∷ [])) (known ++? Some (93 ∷ [])) (91 ∷ []) (items ++ (93 ∷ [])) refl
    (texts_joined known (Some (93 ∷ [])) items (93 ∷ []) (items_known [] texts items stand) refl))

-- the debug form of a list, where it is known, stands for the list
pub known_list : (texts : List (List ℕ)) (bytes : List ℕ) → debug_list debug_str texts ≡ Some bytes → QuotesList texts bytes
known_list texts bytes known =
    let (other, stands) = some_list texts in
    let same : other ≡ bytes = subst (λ o. IsText o other) known (list_known texts other stands) in
    subst (QuotesList texts) same stands

-- ---- where a quoted text ends

-- no quote stands bare, none is a control byte, and the last is no backslash that escapes
abbrev passes : Bool → List ℕ → Bool
passes true [] = false
passes false [] = true
passes true (b ∷ bs) = not (is_control b) && passes false bs
passes false (b ∷ bs) = not (is_control b) && (if b == 34 then false else passes (b == 92) bs)

picked : (q w x y z : Bool) → (if q then false else x) ≡ true → (x ≡ true → y ≡ z) → (if q then w else y) ≡ z
picked true w x y z e h = absurd (cc)
picked false w x y z e h = h e

closes_behind : (escaped : Bool) (xs ys : List ℕ) → passes escaped xs ≡ true → closes escaped (xs ++ ys) ≡ closes false ys
closes_behind true [] ys e = absurd (cc)
closes_behind false [] ys e = refl
closes_behind true (b ∷ bs) ys e =
    let p = and_parts (not (is_control b)) (passes false bs) e in
    λ i. p.0 i && closes_behind false bs ys p.1 i
closes_behind false (b ∷ bs) ys e =
    let p = and_parts (not (is_control b)) (if b == 34 then false else passes (b == 92) bs) e in
    let rest = picked (b == 34) (length (bs ++ ys) == 0) (passes (b == 92) bs) (closes (b == 92) (bs ++ ys)) (closes false ys) p.1
    (closes_behind (b == 92) bs ys) in
    λ i. p.0 i && rest i

rule_passes : (b : ℕ) → passes false (debug_escape 34 b) ≡ true
unfolding debug_escape digits
rule_passes b = ⊎_elim low past (cases_lt b 128)
  where
    low : b < 128 → passes false (debug_escape 34 b) ≡ true
    low h = agree_below_at (λ n. passes false (debug_escape 34 n)) (λ _. true) 128 b refl h

    past : 128 ≤ b → passes false (debug_escape 34 b) ≡ true
    past h =
        ap (passes false) (escape_past b (omega arith))
        ∙ rw (le-ltb b 32 (omega arith), ne_eqb b 127 (λ e. omega arith), ne_eqb b 34 (λ e. omega arith), ne_eqb b 92 (λ e. omega arith)) refl

-- a byte that is not marked is no quote and no backslash
no_quote : (b : ℕ) → is_marked b ≡ false → (b == 34) ≡ false
no_quote b h = grind (arith, nat_tests)

no_backslash : (b : ℕ) → is_marked b ≡ false → (b == 92) ≡ false
no_backslash b h = grind (arith, nat_tests)

plain_passes : (bytes : List ℕ) → ArePlain bytes → passes false bytes ≡ true
plain_passes [] plain = refl
plain_passes (b ∷ bs) plain =
    let bounds = plain_bounds b plain.0 in
    rw (le-ltb b 32 bounds.0, ne_eqb b 127 (λ e. omega (arith, bounds.1)), no_quote b plain.0, no_backslash b plain.0) (plain_passes bs plain.1)

code_passes : (bytes : List ℕ) → IsCode bytes → passes false bytes ≡ true
unfolding IsCode
code_passes bytes (digits, plain, is) = ap (passes false) is ∙ plain_passes digits plain

part_passes : (part : QuotedPart) → passes false (part_shown part) ≡ true
part_passes (by_rule b) = rule_passes b
part_passes (by_code c) = code_passes (escape_unicode c) (code_plain c)

parts_close : (parts : List QuotedPart) (ys : List ℕ) → closes false (flat_map part_shown parts ++ ys) ≡ closes false ys
parts_close [] ys = refl
parts_close (p ∷ ps) ys =
    ap (closes false) (append_assoc (part_shown p) (flat_map part_shown ps) ys)
    ∙ closes_behind false (part_shown p) (flat_map part_shown ps ++ ys) (part_passes p) ∙ parts_close ps ys

pub quotes_close : (text bytes : List ℕ) → Quotes text bytes → (rest : List ℕ) × (bytes ≡ 34 ∷ rest) × IsTrue (closes false rest)
quotes_close text bytes (shown, stands, is) =
    (shown ++ 34 ∷ [], is, ap (λ l. closes false (l ++ 34 ∷ [])) (sym stands.escaped) ∙ parts_close stands.parts (34 ∷ []))
