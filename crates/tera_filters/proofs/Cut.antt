-- A text that is cut behind so many characters.
use Rattle.std.specs.Prelude.{◌≡◌, ◌≢◌, ◌≤◌, ◌-◌, ◌++◌, ℕ, List, [], length, take, drop}
use Rattle.std.specs.Str.{IsCharBoundary, IsUtf8, chars, encode_utf8_all}
use Rattle.std.proofs.Common.{ap, sym, subst, ◌∙◌, inl, inr, arith}
use Rattle.std.proofs.lemmas.Bool.{cases_lt, lt-ltb, le-ltb, cond-true, cond-false}
use Rattle.std.proofs.lemmas.List.{drop_all, length-append, length-drop, nil_from_length, take-append-drop, take_at}
use Rattle.std.proofs.lemmas.Str.{IsCharBoundary-at_seam, IsUtf8-nil, chars-nil, encodes-append, encodes-chars}
use Rattle.tera_filters.specs.Parts.{truncated}

-- what stands before what is left of a text behind so many characters
pub before : (bs left : List ℕ) (count : ℕ) → IsUtf8 bs → IsUtf8 left → chars left ≡ drop count (chars bs)
    → (length left ≤ length bs) × IsCharBoundary bs (length bs - length left)
    × (take (length bs - length left) bs ≡ encode_utf8_all (take count (chars bs)))
before bs left count utf8 text off =
    let front = encode_utf8_all (take count (chars bs)) in
    let seam : bs ≡ front ++ left =
    sym (encodes-chars bs utf8) ∙ sym (ap encode_utf8_all (take-append-drop count (chars bs)))
    ∙ encodes-append (take count (chars bs)) (drop count (chars bs))
    ∙ ap (λ l. front ++ l) (sym (ap encode_utf8_all off) ∙ encodes-chars left text) in
    let long = ap length seam ∙ length-append front left in
    let at : length front ≡ length bs - length left = omega (arith, long) in (
      omega (arith, long),
      subst (IsCharBoundary bs) at (IsCharBoundary-at_seam bs front left seam text),
      ap (take (length bs - length left)) seam ∙ take_at front left _ at,
    )

-- where nothing is left the text is no longer
pub no_longer : (bs left end : List ℕ) (count : ℕ) → length left ≡ 0 → chars left ≡ drop count (chars bs)
    → bs ≡ truncated count end bs
no_longer bs left end count none off =
    let over = sym (length-drop count (chars bs)) ∙ ap length (sym off ∙ ap chars (nil_from_length left none) ∙ chars-nil) in
    let most : length (chars bs) ≤ count = omega (arith, over) in
    sym (cond-false _ (encode_utf8_all (take count (chars bs)) ++ end) bs (le-ltb count (length (chars bs)) most))

-- where something is left it is longer
pub longer : (bs left end made : List ℕ) (count : ℕ) → IsUtf8 left → length left ≢ 0 → chars left ≡ drop count (chars bs)
    → made ≡ encode_utf8_all (take count (chars bs)) ++ end → made ≡ truncated count end bs
longer bs left end made count text some off is =
    elim (cases_lt count (length (chars bs))) [
      | inl below ↦ is ∙ sym (cond-true _ (encode_utf8_all (take count (chars bs)) ++ end) bs (lt-ltb count (length (chars bs)) below))
      | inr most ↦
          let none : left ≡ [] =
          sym (encodes-chars left text) ∙ ap encode_utf8_all (off ∙ drop_all count (chars bs) most ∙ sym chars-nil) ∙ encodes-chars [] IsUtf8-nil in
          absurd (some (ap length none))
    ]

-- where nothing is left a turn earlier, that is what is left
pub still_none : (all left : List ℕ) (turn count : ℕ) → turn ≤ count → left ≡ [] → left ≡ drop turn all → left ≡ drop count all
still_none all left turn count more none off =
    none ∙ sym (drop_all count all (omega (arith, ap length (sym none ∙ off), length-drop turn all)))
