-- Where a text is cut at its first marked character, and what stands for that character.
use Rattle.std.proofs.Common.{map, if◌then◌else◌, ◌≡◌, ℕ, zero, suc, ◌+◌, ◌-◌, ◌<◌, ◌≤◌, true, false, ◌==◌, cond, List, [], ◌∷◌, ◌++◌, length, get_or}
use Rattle.std.proofs.Common.{take, drop, bytes_eq, refl, sym, ap, subst, ◌∙◌, arith, ne_eqb, append_assoc, append-nil, take-append-drop, take_at}
use Rattle.std.proofs.Common.{subst₂, ⊎_elim, encode_utf8_all, IsUtf8, length-append, length-take-le, length-drop}
use Rattle.std.proofs.lemmas.Bool.{cond-false, agree_below_at, cases_lt}
use Rattle.std.proofs.lemmas.Bool.Decides.{nat_tests}
use Rattle.std.proofs.lemmas.List.{get_or-take}
use Rattle.std.proofs.lemmas.List.Concat.{flat_map-append}
use Rattle.std.proofs.Math.Seq.{drop-cons}
use Rattle.std.proofs.lemmas.Str.{byte_from_char, encode_ascii, length-encode, len_utf8_bounds, IsCharBoundary-start, IsCharBoundary-after_ascii}
use Rattle.std.proofs.lemmas.Str.{IsCharBoundary-at_seam}
use Rattle.std.specs.Str.{IsCharBoundary}
use Rattle.std.specs.Char.{encode_utf8, IsScalar}
use Rattle.std.specs.Char.Escape.{IsEscapeDebug, escape_default, escape_unicode}
use Rattle.std.specs.Cmp.Lexicographic.{bytes_decides}
use Rattle.std.specs.Fmt.{debug_escape, comma_space, digits}
use Rattle.tera_report.specs.Quoted.{escapes, Quotes, QuotesItems, Escapes, by_code}
use Rattle.tera_report.specs.inner.Quoted.{is_marked, Cuts, SkipsPlain, PlainBetween, EscapesMarked}
use Rattle.tera_report.proofs.QuoteLaws.{escapes_char, plain_bounds, escapes_by_rule, escapes_joined, encodes_code, escapes_itself}

-- what `escape_debug` gives for an ASCII character
abbrev escape_chars : ℕ → List ℕ
escape_chars c = cond (c == 0) (92 ∷ 48 ∷ []) (escape_default c)

-- what stands for each ASCII character
each_escape : (c : ℕ) → c < 128 → debug_escape 34 c ≡ (if is_marked c then encode_utf8_all (escape_chars c) else c ∷ [])
unfolding debug_escape digits encode_utf8
each_escape c h =
    (bytes_decides _ _).0 (agree_below_at (λ n. bytes_eq (debug_escape 34 n) (if is_marked n then encode_utf8_all (escape_chars n) else n ∷ [])) (λ _. true)
    128 c refl h)

plain_escape : (b : ℕ) → is_marked b ≡ false → debug_escape 34 b ≡ b ∷ []
plain_escape b h =
    let low = (plain_bounds b h).1 in
    each_escape b (omega arith) ∙ ap (λ m. if m then encode_utf8_all (escape_chars b) else b ∷ []) h

-- a text with no marked byte stands for itself
pub escapes_plain : (xs : List ℕ) → ((k : ℕ) → k < length xs → is_marked (get_or xs k 0) ≡ false) → escapes xs ≡ xs
escapes_plain [] plain = refl
escapes_plain (x ∷ xs) plain =
    let first = plain_escape x (plain 0 (omega arith)) in
    let others = escapes_plain xs (λ k h. plain (suc k) (omega arith)) in
    cc

pub escapes_between : (xs : List ℕ) → PlainBetween xs 0 (length xs) → escapes xs ≡ xs
escapes_between xs plain = escapes_plain xs (λ k h. plain k (omega arith) h)

-- a character begins where only plain bytes stand before, or the text ends there
pub boundary_after_plain : (bs : List ℕ) (at : ℕ) → IsUtf8 bs → at ≤ length bs
    → ((k : ℕ) → k < at → is_marked (get_or bs k 0) ≡ false) → IsCharBoundary bs at
boundary_after_plain bs zero u within plain = IsCharBoundary-start bs u
boundary_after_plain bs (suc n) u within plain =
    let before : (32 ≤ get_or bs n 0) × (get_or bs n 0 < 127) = plain_bounds (get_or bs n 0) (plain n (omega arith)) in
    let next : n + 1 ≡ suc n = omega arith in
    subst (λ k. IsCharBoundary bs k) next (IsCharBoundary-after_ascii bs n u (omega arith) (omega arith))

-- what `escape_debug` gives for a marked character stands for it
pub marked_escape : (c : ℕ) (given bytes : List ℕ) → IsScalar c → IsEscapeDebug c given → bytes ≡ encode_utf8_all given → EscapesMarked c bytes
marked_escape c given bytes scalar e spelled marked = ⊎_elim low past (cases_lt c 128)
  where
    given_chars : (c : ℕ) (given : List ℕ) → IsEscapeDebug c given → c < 128 → given ≡ escape_chars c
    given_chars zero given e low = e.0 refl
    given_chars (suc n) given e low = e.1 (omega arith) low
        ∙ sym (cond-false _ _ _ (ne_eqb (suc n) 0 (λ h. omega arith)))

    low : c < 128 → Escapes (encode_utf8 c) bytes
    low h =
        let is : bytes ≡ debug_escape 34 c =
        spelled ∙ ap encode_utf8_all (given_chars c given e h)
        ∙ sym (each_escape c h ∙ ap (λ m. if m then encode_utf8_all (escape_chars c) else c ∷ []) marked) in
        subst₂ Escapes (sym (encode_ascii c h)) (append-nil (debug_escape 34 c) ∙ sym is) (escapes_by_rule (c ∷ []))

    by_itself : 127 < c → given ≡ c ∷ [] → Escapes (encode_utf8 c) bytes
    by_itself h is =
        subst (Escapes (encode_utf8 c)) (sym (spelled ∙ ap encode_utf8_all is ∙ append-nil (encode_utf8 c))) (escapes_itself (encode_utf8 c) (escapes_char c h))

    by_its_code : 127 < c → given ≡ escape_unicode c → Escapes (encode_utf8 c) bytes
    by_its_code h is = record {
      parts = by_code c ∷ [];
      proper = ((h, scalar), tt);
      joined = append-nil (encode_utf8 c);
      escaped = append-nil (escape_unicode c) ∙ sym (spelled ∙ ap encode_utf8_all is ∙ encodes_code c);
    }

    past : 128 ≤ c → Escapes (encode_utf8 c) bytes
    past h = ⊎_elim (by_itself (omega arith)) (by_its_code (omega arith)) (e.2 (omega arith))

-- past a run of plain bytes
pub past_plain : (text after : List ℕ) (at : ℕ) → at ≤ length text
    → ((k : ℕ) → k < at → is_marked (get_or text k 0) ≡ false)
    → (at < length text → is_marked (get_or text at 0) ≡ true) → after ≡ drop at text → SkipsPlain text after
past_plain text after at within plain stops is = record {
  run = take at text;
  parts = sym (take-append-drop at text) ∙ ap (λ l. take at text ++ l) (sym is);
  plain = escapes_plain (take at text) (λ k h.
      let before : k < at = omega (arith, length-take-le at text) in
      subst (λ b. is_marked b ≡ false) (sym (get_or-take at text k 0 before)) (plain k before));
  stops = λ some.
      let inside : at < length text = omega (arith, ap length is, length-drop at text) in
      let first : after ≡ get_or text at 0 ∷ drop (suc at) text = is ∙ drop-cons text at 0 inside in
      subst (λ l. is_marked (get_or l 0 0) ≡ true) (sym first) (stops inside);
}

-- a character begins where a text begins that ends another, or that text ends
pub boundary_before : (text front after : List ℕ) → text ≡ front ++ after → IsUtf8 after → IsCharBoundary text (length text - length after)
boundary_before text front after parts u =
    let here : length front ≡ length text - length after = omega (arith, ap length parts, length-append front after) in
    subst (IsCharBoundary text) here (IsCharBoundary-at_seam text front after parts u)

pub some_left : (after tail : List ℕ) (c : ℕ) → after ≡ encode_utf8 c ++ tail → length tail < length after
some_left after tail c cut = omega (
  arith,
  ap length cut,
  length-append (encode_utf8 c) tail,
  length-encode c,
  (len_utf8_bounds c).0,
)

-- what ends what ends a text ends the text
pub ends_later : (text front rest run after : List ℕ) → text ≡ front ++ rest → rest ≡ run ++ after
    → text ≡ (front ++ run) ++ after
ends_later text front rest run after parts more = parts ∙ ap (λ l. front ++ l) more ∙ sym (append_assoc front run after)

-- what is before a run that stands for itself, and the run, stand for themselves
pub plain_before : (front run : List ℕ) → escapes front ≡ front → escapes run ≡ run → escapes (front ++ run) ≡ front ++ run
plain_before front run a b = flat_map-append (debug_escape 34) front run ∙ (λ i. a i ++ b i)

-- the same with a character past ASCII behind them
pub plain_through : (front run : List ℕ) (c : ℕ) → escapes front ≡ front → escapes run ≡ run → 127 < c
    → escapes ((front ++ run) ++ encode_utf8 c) ≡ (front ++ run) ++ encode_utf8 c
plain_through front run c a b past = plain_before (front ++ run) (encode_utf8 c) (plain_before front run a b) (escapes_char c past)

-- a character is marked where its first byte is
marked_char : (after tail : List ℕ) (c : ℕ) → after ≡ encode_utf8 c ++ tail → (0 < length after → is_marked (get_or after 0 0) ≡ true) → is_marked c ≡ true
marked_char after tail c cut stops = ⊎_elim low past (cases_lt c 128)
  where
    low : c < 128 → is_marked c ≡ true
    low h = subst (λ b. is_marked b ≡ true) (byte_from_char after tail c cut h) (stops (omega (arith, some_left after tail c cut)))

    past : 128 ≤ c → is_marked c ≡ true
    past h = grind (arith, nat_tests)

-- where a text is cut
pub cut_here : (text front rest after tail taken : List ℕ) (c : ℕ) → text ≡ front ++ rest → escapes front ≡ front → SkipsPlain rest after
    → after ≡ encode_utf8 c ++ tail → taken ≡ take (length text - length after) text → Cuts text taken c tail
cut_here text front rest after tail taken c before itself skips cut taken_is =
    let left = ends_later text front rest skips.run after before skips.parts in
    let here : length (front ++ skips.run) ≡ length text - length after = omega (
      arith,
      ap length left,
      length-append (front ++ skips.run) after,
    ) in
    let same : taken ≡ front ++ skips.run = taken_is ∙ ap (take (length text - length after)) left
    ∙ take_at (front ++ skips.run) after _ here in
    record {
      marked = marked_char after tail c cut skips.stops;
      plain = subst (λ l. escapes l ≡ l) (sym same) (plain_before front skips.run itself skips.plain);
      whole = left ∙ (λ i. sym same i ++ cut i);
    }

-- a run, what stands for a marked character, and what stands for the rest stand for a text
pub run_stands : (text run after bytes : List ℕ) (c : ℕ) → Cuts text run c after → EscapesMarked c bytes
    → (rest : List ℕ) → Escapes after rest → Escapes text (run ++ (bytes ++ rest))
run_stands text run after bytes c cut stands rest others =
    subst (λ l. Escapes l (run ++ (bytes ++ rest))) (sym cut.whole)
    (escapes_joined run (encode_utf8 c ++ after) run (bytes ++ rest) (escapes_itself run cut.plain)
    (escapes_joined (encode_utf8 c) after bytes rest (stands cut.marked) others))

-- what stands for a text and for the texts after it stands for all of them
pub items_more : {A : Type 0} (f : A → List ℕ) (left : List A) (x : A) (others : List A) (lead bytes : List ℕ) → left ≡ x ∷ others → Quotes (f x) bytes
    → (later : List ℕ) → QuotesItems comma_space (map f others) later → QuotesItems lead (map f left) (lead ++ (bytes ++ later))
items_more f left x others lead bytes is stands later rest =
    subst (λ l. QuotesItems lead (map f l) (lead ++ (bytes ++ later))) (sym is) (bytes, later, stands, rest, refl)
