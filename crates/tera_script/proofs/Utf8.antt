-- UTF-8: where it may be cut, and that what it spells is UTF-8.
use Rattle.std.proofs.Common.{◌≡◌, ℕ, ◌+◌, ◌<◌, List, [], ◌∷◌, ◌++◌, length, get_or, drop, refl, sym, ap, ◌∙◌, arith, append_assoc, length-append, add-zero}
use Rattle.std.proofs.Common.{get_or-append-add, take_at, drop_at, Bool, true, nat_lt, subst}
use Rattle.std.specs.Prelude.{flat_map, encode_utf8, IsUtf8}
use Rattle.std.specs.List.{AllByRecursion, list_all}
use Rattle.std.specs.Str.Parse.{AllDigits, digits_value}
use Rattle.std.proofs.lemmas.Str.{IsUtf8-append, IsUtf8-encode, IsUtf8-take, IsUtf8-drop, IsUtf8-from_ascii, IsCharBoundary-before_ascii}
use Rattle.std.proofs.lemmas.Str.{IsCharBoundary-after_ascii}
use Rattle.std.proofs.lemmas.Str.Ascii.{IsAscii-nil, IsAscii-cons}
use Rattle.std.proofs.lemmas.Grind.{common_steps}
use Rattle.tera_script.specs.Text.{Token, itself, character, spelling, decoding, IsToken}
use Rattle.std.specs.Str.{IsUtf8, IsAscii}
use Rattle.std.proofs.lemmas.Bool.Decides.{nat_tests}
use Rattle.tera_script.specs.Line.{SpellsOperand}
use Rattle.tera_script.specs.Word.{is_blank, AreBlanks, is_name_byte, IsName}
use Rattle.tera_script.specs.Readers.{is_word_byte}
use Rattle.std.proofs.lemmas.Bool.{and_parts}

-- the byte behind a front
pub byte_at : (xs zs : List ℕ) (b : ℕ) → get_or (xs ++ (b ∷ zs)) (length xs) 0 ≡ b
byte_at xs zs b = ap (λ n. get_or (xs ++ (b ∷ zs)) n 0) (sym (add-zero (length xs))) ∙ get_or-append-add xs (b ∷ zs) 0 0

-- UTF-8 may be cut before and after an ASCII byte
pub around_byte : (xs zs : List ℕ) (b : ℕ) → b < 128 → IsUtf8 (xs ++ (b ∷ zs)) → IsUtf8 xs × IsUtf8 zs
around_byte xs zs b ascii u =
    let inside : length xs < length (xs ++ (b ∷ zs)) = grind (arith, common_steps) in
    let small : get_or (xs ++ (b ∷ zs)) (length xs) 0 < 128 = rw (byte_at xs zs b) ascii in
    let front = IsUtf8-take (xs ++ (b ∷ zs)) (length xs) u (IsCharBoundary-before_ascii (xs ++ (b ∷ zs)) (length xs) inside small) in
    let back = IsUtf8-drop (xs ++ (b ∷ zs)) (length xs + 1) u (IsCharBoundary-after_ascii (xs ++ (b ∷ zs)) (length xs) u inside small) in
    let cut : drop (length xs + 1) (xs ++ (b ∷ zs)) ≡ zs = ap (drop (length xs + 1)) (sym (append_assoc xs (b ∷ []) zs)) ∙ drop_at (xs ++ (b ∷ [])) zs
    (length xs + 1) (length-append xs (b ∷ [])) in
    (rw (take_at xs (b ∷ zs) (length xs) refl) at front, rw cut at back)

pub after_byte : (zs : List ℕ) (b : ℕ) → b < 128 → IsUtf8 (b ∷ zs) → IsUtf8 zs
after_byte zs b ascii u = (around_byte [] zs b ascii u).1

after_digits : (digits zs : List ℕ) → AllDigits 16 digits → IsUtf8 (digits ++ zs) → IsUtf8 zs
after_digits [] zs h u = u
after_digits (d ∷ ds) zs h u = after_digits ds zs h.1 (after_byte (ds ++ zs) d (grind (arith, h.0)) u)

-- an escape's bytes may be cut off, and what it stands for is UTF-8
escaped : (xs zs ts : List ℕ) (letter b : ℕ) → letter < 128 → b < 128 → (IsUtf8 zs → IsUtf8 ts) → IsUtf8 (xs ++ (92 ∷ letter ∷ zs)) → IsUtf8 (xs ++ (b ∷ ts))
escaped xs zs ts letter b ascii decoded rest u =
    let cut = around_byte xs (letter ∷ zs) 92 (omega arith) u in
    IsUtf8-append xs (b ∷ ts) cut.0
    (IsUtf8-append (b ∷ []) ts (IsUtf8-from_ascii (b ∷ []) (IsAscii-cons b [] decoded IsAscii-nil)) (rest (after_byte zs letter ascii cut.1)))

pub utf8_tokens : (xs : List ℕ) (ps : List Token) → AllByRecursion IsToken ps → IsUtf8 (xs ++ flat_map spelling ps) → IsUtf8 (xs ++ flat_map decoding ps)
utf8_tokens xs [] h u = u
utf8_tokens xs (itself b ∷ ps) h u = rw (← append_assoc xs (b ∷ []) (flat_map decoding ps))
    (utf8_tokens (xs ++ (b ∷ [])) ps h.1 (rw (append_assoc xs (b ∷ []) (flat_map spelling ps)) u))
utf8_tokens xs (character digits ∷ ps) h u =
    let cut = around_byte xs (117 ∷ 123 ∷ ((digits ++ (125 ∷ [])) ++ flat_map spelling ps)) 92 (omega arith) u in
    let inside = after_byte ((digits ++ (125 ∷ [])) ++ flat_map spelling ps) 123 (omega arith)
    (after_byte (123 ∷ ((digits ++ (125 ∷ [])) ++ flat_map spelling ps)) 117 (omega arith) cut.1) in
    let rest = after_byte (flat_map spelling ps) 125 (omega arith) (after_digits digits (125 ∷ flat_map spelling ps) h.0.0 (rw append_assoc at inside)) in
    IsUtf8-append xs (encode_utf8 (digits_value 16 digits) ++ flat_map decoding ps) cut.0
    (IsUtf8-append (encode_utf8 (digits_value 16 digits)) (flat_map decoding ps) (IsUtf8-encode (digits_value 16 digits) h.0.3)
    (utf8_tokens [] ps h.1 rest))
utf8_tokens xs (p ∷ ps) h u = escaped xs (flat_map spelling ps) (flat_map decoding ps) _ _ (omega arith) (omega arith) (utf8_tokens [] ps h.1) u

module _ (p : ℕ → Bool) (ascii : (b : ℕ) → p b ≡ true → b < 128) where
  utf8_past : (xs ys : List ℕ) → list_all p xs ≡ true → IsUtf8 (xs ++ ys) → IsUtf8 ys
  utf8_past [] ys h u = u
  utf8_past (b ∷ xs) ys h u = let e = and_parts (p b) (list_all p xs) h in utf8_past xs ys e.1 (after_byte (xs ++ ys) b (ascii b e.0) u)

  ascii_from : (xs : List ℕ) → list_all p xs ≡ true → IsAscii xs
  ascii_from [] h = IsAscii-nil
  ascii_from (b ∷ xs) h = let e = and_parts (p b) (list_all p xs) h in IsAscii-cons b xs (ascii b e.0) (ascii_from xs e.1)

name_byte_is_ascii : (b : ℕ) → is_name_byte b ≡ true → b < 128
name_byte_is_ascii b h = grind (arith, nat_tests)

pub utf8_past_blanks : (xs ys : List ℕ) → AreBlanks xs → IsUtf8 (xs ++ ys) → IsUtf8 ys
utf8_past_blanks = utf8_past is_blank (λ b h. grind (arith, nat_tests))

pub utf8_past_word : (xs ys : List ℕ) → list_all is_word_byte xs ≡ true → IsUtf8 (xs ++ ys) → IsUtf8 ys
utf8_past_word = utf8_past is_word_byte (λ b h. grind (arith, nat_tests))

pub utf8_past_name : (name rest : List ℕ) → IsName name → IsUtf8 (name ++ rest) → IsUtf8 rest
utf8_past_name [] rest n u = absurd n
utf8_past_name (b ∷ name) rest n u = utf8_past is_name_byte name_byte_is_ascii name rest n.1 (after_byte (name ++ rest) b (grind (arith, nat_tests, n.0)) u)

pub utf8_past_operand : (operand name rest : List ℕ) → SpellsOperand operand name → IsUtf8 (operand ++ rest) → IsUtf8 rest
utf8_past_operand operand name rest h u = utf8_past_name name rest h.2
    (utf8_past_blanks h.0 (name ++ rest) h.1.1 (subst IsUtf8 (ap (λ xs. xs ++ rest) h.3 ∙ append_assoc h.0 name rest) u))

pub ruleset ascii_texts = (IsUtf8-from_ascii)

pub name_utf8 : (name : List ℕ) → IsName name → IsUtf8 name
name_utf8 [] n = absurd n
name_utf8 (b ∷ name) n = IsUtf8-from_ascii (b ∷ name) (IsAscii-cons b name (grind (arith, nat_tests, n.0))
    (ascii_from is_name_byte name_byte_is_ascii name n.1))

abbrev pub all_ascii : List ℕ → Bool
all_ascii = list_all (λ b. nat_lt b 128)

pub ascii_utf8 : (xs : List ℕ) → all_ascii xs ≡ true → IsUtf8 xs
ascii_utf8 xs h = IsUtf8-from_ascii xs (ascii_from (λ b. nat_lt b 128) (λ b h. grind (arith, nat_tests, h)) xs h)
