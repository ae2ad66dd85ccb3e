-- Each text has one spelling, and spelled bytes stand for one text.
use Rattle.std.proofs.Common.{◌≡◌, ℕ, suc, ◌<◌, ◌≤◌, length, get_or, take, drop, arith, Bool, true, false, ◌==◌, List, [], ◌∷◌, ◌++◌, map, refl, sym, ap, ◌∙◌}
use Rattle.std.proofs.Common.{subst, if◌then◌else◌}
use Rattle.std.proofs.lemmas.Bool.{eqb-true}
use Rattle.std.proofs.lemmas.Bool.Decides.{nat_tests}
use Rattle.std.proofs.lemmas.List.Concat.{flat_map-append}
use Rattle.std.proofs.lemmas.List.{length-take, get_or-take, take-append-drop}
use Rattle.std.specs.List.{flat_map, AllByRecursion}
use Rattle.tera_report.specs.Escaping.{Token, itself, ampersand, less_than, greater_than, double_quote, single_quote, spelling, decoding, is_special, IsToken}
use Rattle.tera_report.specs.Escaping.{Spells, token_of, escaped}
use Rattle.tera_report.specs.inner.Pieces.{IsPlain}

-- an ordinary byte's token is the byte itself
pub token_of-plain : (byte : ℕ) → is_special byte ≡ false → token_of byte ≡ itself byte
token_of-plain byte h = grind (arith, nat_tests)

-- a special byte is ASCII
pub special_is_ascii : (byte : ℕ) → is_special byte ≡ true → byte < 128
special_is_ascii byte h = grind (arith, nat_tests)

-- the token of a byte is proper and stands for it
token_choice : (byte : ℕ) (p q r s t : Bool) → (byte == 38) ≡ p → (byte == 60) ≡ q → (byte == 62) ≡ r → (byte == 34) ≡ s → (byte == 39) ≡ t
    → let token = if p then ampersand else (if q then less_than else (if r then greater_than
    else (if s then double_quote else (if t then single_quote else itself byte)))) in
    IsToken token × (decoding token ≡ byte)
token_choice byte true q r s t e f g h k = (tt, sym (eqb-true byte 38 e))
token_choice byte false true r s t e f g h k = (tt, sym (eqb-true byte 60 f))
token_choice byte false false true s t e f g h k = (tt, sym (eqb-true byte 62 g))
token_choice byte false false false true t e f g h k = (tt, sym (eqb-true byte 34 h))
token_choice byte false false false false true e f g h k = (tt, sym (eqb-true byte 39 k))
token_choice byte false false false false false e f g h k = (rw (e, f, g, h, k) refl, refl)

-- `escaped` spells the text
pub Spells-escaped : (text : List ℕ) → Spells (escaped text) text
Spells-escaped [] = record { tokens = []; proper = tt; spelled = refl; decoded = refl }
Spells-escaped (byte ∷ text) =
    let (proper, decoded) = token_choice byte _ _ _ _ _ refl refl refl refl refl in
    let h = Spells-escaped text in
    record {
      tokens = token_of byte ∷ h.tokens;
      proper = (proper, h.proper);
      spelled = ap (λ l. spelling (token_of byte) ++ l) h.spelled;
      decoded = λ i. decoded i ∷ h.decoded i;
    }

-- what spells a text is `escaped` of it
escaped_tokens : (tokens : List Token) → AllByRecursion IsToken tokens → escaped (map decoding tokens) ≡ flat_map spelling tokens
escaped_tokens [] h = refl
escaped_tokens (itself byte ∷ tokens) h = λ i. spelling (token_of-plain byte h.0 i) ++ escaped_tokens tokens h.1 i
escaped_tokens (token ∷ tokens) h = ap (λ l. spelling token ++ l) (escaped_tokens tokens h.1)

pub escaped_from_spelling : (bytes text : List ℕ) → Spells bytes text → escaped text ≡ bytes
escaped_from_spelling bytes text h = ap escaped (sym h.decoded) ∙ escaped_tokens h.tokens h.proper ∙ h.spelled

pub spelling_is_escaped : (bytes text : List ℕ) → Spells bytes text → bytes ≡ escaped text
spelling_is_escaped bytes text h = sym (escaped_from_spelling bytes text h)

pub one_spelling_each : (v w text : List ℕ) → Spells v text → Spells w text → v ≡ w
one_spelling_each v w text g h = spelling_is_escaped v text g ∙ escaped_from_spelling w text h

-- an ordinary byte begins no entity
no_ampersand : {P : Type 0} (byte : ℕ) → is_special byte ≡ false → byte ≡ 38 → P
no_ampersand byte h e = let wrong : is_special 38 ≡ false = subst (λ b. is_special b ≡ false) e h in absurd (cc)

abbrev second : List ℕ → ℕ
second [] = 0
second (a ∷ []) = 0
second (a ∷ b ∷ rest) = b

-- the first token of spelled bytes is determined, and so is what follows it
first_token : (k l : Token) (a b : List ℕ) → IsToken k → IsToken l → spelling k ++ a ≡ spelling l ++ b → (k ≡ l) × (a ≡ b)
first_token (itself x) (itself y) a b p q e = ((cc), (cc))
first_token (itself x) l a b p q e = no_ampersand x p (cc)
first_token k (itself y) a b p q e = no_ampersand y q (cc)
first_token ampersand ampersand a b p q e = (refl, (cc))
first_token less_than less_than a b p q e = (refl, (cc))
first_token greater_than greater_than a b p q e = (refl, (cc))
first_token double_quote double_quote a b p q e = (refl, (cc))
first_token single_quote single_quote a b p q e = (refl, (cc))
first_token k l a b p q e = absurd (omega (arith, ap second e))

no_token : {P : Type 0} (k : Token) (a : List ℕ) → [] ≡ spelling k ++ a → P
no_token (itself x) a e = absurd (cc)
no_token k a e = absurd (cc)

same_tokens : (ks ls : List Token) → AllByRecursion IsToken ks → AllByRecursion IsToken ls → flat_map spelling ks ≡ flat_map spelling ls → ks ≡ ls
same_tokens [] [] p q e = refl
same_tokens [] (l ∷ ls) p q e = no_token l _ e
same_tokens (k ∷ ks) [] p q e = no_token k _ (sym e)
same_tokens (k ∷ ks) (l ∷ ls) p q e =
    let (first, rest) = first_token k l _ _ p.0 q.0 e in
    let others = same_tokens ks ls p.1 q.1 rest in
    cc

pub one_decoding_each : (bytes s t : List ℕ) → Spells bytes s → Spells bytes t → s ≡ t
one_decoding_each bytes s t g h =
    sym g.decoded
    ∙ ap (map decoding) (same_tokens g.tokens h.tokens g.proper h.proper (g.spelled ∙ sym h.spelled))
    ∙ h.decoded

-- a text with no special byte is its own spelling
pub escaped_plain : (xs : List ℕ) → ((k : ℕ) → k < length xs → is_special (get_or xs k 0) ≡ false) → escaped xs ≡ xs
escaped_plain [] plain = refl
escaped_plain (x ∷ xs) plain =
    let first : spelling (token_of x) ≡ x ∷ [] = ap spelling (token_of-plain x (plain 0 (omega arith))) in
    let others = escaped_plain xs (λ k h. plain (suc k) (omega arith)) in
    cc

-- a text that begins with a run of ordinary bytes
pub escaped_run : (text bytes run rest : List ℕ) (i : ℕ) → bytes ≡ text → i ≤ length bytes → IsPlain bytes 0 i
    → run ≡ take i text → rest ≡ drop i text → escaped text ≡ run ++ escaped rest
escaped_run text bytes run rest i same within plain run_is rest_is =
    let front = escaped_plain (take i bytes) (λ k h.
    let before : k < i = omega (arith, length-take i bytes) in
    subst (λ b. is_special b ≡ false) (sym (get_or-take i bytes k 0 before)) (plain k (omega arith) before)) in
    let parts = ap escaped (sym (take-append-drop i bytes)) ∙ flat_map-append (λ byte. spelling (token_of byte)) (take i bytes) (drop i bytes)
    ∙ ap (λ l. l ++ escaped (drop i bytes)) front in
    let moved = subst (λ t. escaped t ≡ take i t ++ escaped (drop i t)) same parts in
    rw (run_is, rest_is) moved
