-- What is printed of a well-made layout is UTF-8.
use Rattle.std.specs.Prelude.{ℤ, codes}
use Rattle.std.proofs.Common.{◌≡◌, ℕ, zero, suc, ◌<◌, ◌≤◌, Bool, true, false, ◌&&◌, nat_lt, List, [], ◌∷◌, ◌++◌, length, get_or, take, IsUtf8, inl, inr, refl}
use Rattle.std.proofs.Common.{sym, ap, ap₂, ◌∙◌, subst, arith, append-nil, ltb-true, take_all, rules}
use Rattle.std.specs.Fmt.{signed_decimal, debug_escape, digits}
use Rattle.std.specs.List.{flat_map}
use Rattle.std.specs.Str.{is_utf8}
use Rattle.std.specs.Str.Lossy.{utf8_lossy, utf8_valid_len, valid_len_up_to, after_first_chunk, replacement_bytes}
use Rattle.std.proofs.lemmas.Bool.{and_parts, cases_lt, cases_eq, agree_below_at}
use Rattle.std.proofs.lemmas.Fmt.{IsAscii-decimal_wide}
use Rattle.std.proofs.lemmas.List.Concat.{flat_map-append}
use Rattle.std.proofs.lemmas.Str.{IsUtf8-append, IsUtf8-nil, IsUtf8-encode, IsUtf8-from_ascii, IsUtf8-from_is_utf8, encode_ascii, inside_one, utf8_lossy-IsUtf8}
use Rattle.std.proofs.lemmas.Str.{utf8_lossy_step}
use Rattle.std.proofs.str.Lossy.{length-after_first_chunk}
use lib.Utf8.{scalar, scalars, encode, encodes, low_scalar}
use Rattle.tera_meaning.specs.KeyMeaning.{KeyMeaning, truth_key, number_key, text_key, key_order}
use Rattle.tera_meaning.specs.Integer.{IsWide}
use Rattle.tera_meaning.specs.Meaning.{Layout}
use Rattle.tera_meaning.specs.Pairs.{HasDistinctKeys}
use Rattle.tera_meaning.specs.Printed.{printed, printed_key, printed_truth, printed_with, printed_items, more_items, printed_members, more_members}
use Rattle.tera_report.specs.Quoted.{quoted}
use Rattle.tera_meaning.specs.Tree.{Items, Members, undefined, none, truth, number, text, bytes, array, object, no_items, item, no_members, member}
use Rattle.tera_meaning.specs.WellMade.{IsWellMadeLayout, IsWellMadeKeyMeaning, AreMadeOf, ArePairsOf}

ascii_then : (x : ℕ) (xs : List ℕ) → x < 128 → IsUtf8 xs → IsUtf8 (x ∷ xs)
ascii_then x xs small u =
    IsUtf8-append (x ∷ []) xs (subst IsUtf8 (encode_ascii x small) (IsUtf8-encode x (low_scalar x (omega arith)))) u

abbrev are_ascii : List ℕ → Bool
are_ascii [] = true
are_ascii (x ∷ xs) = nat_lt x 128 && are_ascii xs

ascii_utf8 : (xs : List ℕ) → are_ascii xs ≡ true → IsUtf8 xs
ascii_utf8 [] e = IsUtf8-nil
ascii_utf8 (x ∷ xs) e = let p = and_parts _ _ e in ascii_then x xs (ltb-true _ _ p.0) (ascii_utf8 xs p.1)

-- ---- the debug form of a text

escape_ascii : (x : ℕ) → x < 128 → are_ascii (debug_escape 34 x) ≡ true
unfolding debug_escape digits
escape_ascii x h = agree_below_at (λ c. are_ascii (debug_escape 34 c)) (λ _. true) 128 x refl h

escape_itself : (x : ℕ) → 128 ≤ x → debug_escape 34 x ≡ x ∷ []
unfolding debug_escape
escape_itself x l = search rules

escape_high : (xs : List ℕ) → ((k : ℕ) → k < length xs → 128 ≤ get_or xs k 0) → flat_map (debug_escape 34) xs ≡ xs
escape_high [] h = refl
escape_high (x ∷ xs) h =
    ap₂ (λ (a b : List ℕ). a ++ b) (escape_itself x (h 0 (omega arith))) (escape_high xs (λ k below. h (suc k) (omega arith)))

one_char : (c : ℕ) → scalar c ≡ true → IsUtf8 (flat_map (debug_escape 34) (encode c))
one_char c ok = elim (cases_lt c 128) [
  | inl small ↦ rw (encode_ascii c small, append-nil) (ascii_utf8 _ (escape_ascii c small))
  | inr big ↦
      let high : (k : ℕ) → k < length (encode c) → 128 ≤ get_or (encode c) k 0 = λ k below. elim (cases_lt (get_or (encode c) k 0) 128) [
        | inl low ↦ absurd (omega (arith, inside_one c [] (encode c) k (sym (append-nil _)) below low))
        | inr h ↦ h
      ] in
      subst IsUtf8 (sym (escape_high (encode c) high)) (IsUtf8-encode c ok)
]

all_chars : (cs : List ℕ) → scalars cs ≡ true → IsUtf8 (flat_map (debug_escape 34) (encodes cs))
all_chars [] e = IsUtf8-nil
all_chars (c ∷ cs) e =
    let p = and_parts _ _ e in
    subst IsUtf8 (sym (flat_map-append (debug_escape 34) (encode c) (encodes cs)))
    (IsUtf8-append _ _ (one_char c p.0) (all_chars cs p.1))

quoted_utf8 : (t : List ℕ) → IsUtf8 t → IsUtf8 (quoted t)
quoted_utf8 t u =
    ascii_then 34 _ (omega arith)
    (IsUtf8-append _ _ (subst (λ l. IsUtf8 (flat_map (debug_escape 34) l)) u.1.1 (all_chars u.0 u.1.0)) (ascii_utf8 (34 ∷ []) refl))

-- ---- bytes with U+FFFD for each invalid sequence

front_utf8 : (bs : List ℕ) (n : ℕ) → IsUtf8 (take (valid_len_up_to bs n) bs)
front_utf8 bs zero = IsUtf8-nil
front_utf8 bs (suc n) =
    elim (is_utf8 (take (suc n) bs)) as (λ b. is_utf8 (take (suc n) bs) ≡ b → IsUtf8 (take (valid_len_up_to bs (suc n)) bs)) [
      | true ↦ λ e. rw e (IsUtf8-from_is_utf8 (take (suc n) bs) e)
      | false ↦ λ e. rw e (front_utf8 bs n)
    ] refl

valid_utf8 : (bs : List ℕ) → IsUtf8 (take (utf8_valid_len bs) bs)
unfolding utf8_valid_len
valid_utf8 bs = search (rules, front_utf8)

replacement_utf8 : IsUtf8 replacement_bytes
replacement_utf8 = search rules

lossy_within_utf8 : (k : ℕ) (bs : List ℕ) → length bs < k → IsUtf8 (utf8_lossy bs)
lossy_within_utf8 zero bs le = absurd (omega arith)
lossy_within_utf8 (suc k) bs le = elim (cases_eq (utf8_valid_len bs) (length bs)) [
  | inl same ↦
      let u : IsUtf8 bs = subst IsUtf8 (ap (λ n. take n bs) same ∙ take_all (length bs) bs (omega arith)) (valid_utf8 bs) in
      subst IsUtf8 (sym (utf8_lossy-IsUtf8 bs u)) u
  | inr faulty ↦
      let less = length-after_first_chunk bs faulty in
      subst IsUtf8 (sym (utf8_lossy_step bs faulty))
      (IsUtf8-append (take (utf8_valid_len bs) bs) _ (valid_utf8 bs)
      (IsUtf8-append replacement_bytes _ replacement_utf8 (lossy_within_utf8 k (after_first_chunk bs) (omega (arith, le, less)))))
]

lossy_utf8 : (bs : List ℕ) → IsUtf8 (utf8_lossy bs)
lossy_utf8 bs = lossy_within_utf8 (suc (length bs)) bs (omega arith)

-- ---- numbers, keys and whole meanings

signed_utf8 : (z : ℤ) → IsWide z → IsUtf8 (signed_decimal z)
signed_utf8 x0 h = search (rules, IsUtf8-from_ascii, IsAscii-decimal_wide, suc)

truth_utf8 : (b : Bool) → IsUtf8 (printed_truth b)
truth_utf8 x0 = search (rules, true, ascii_utf8)

key_utf8 : (k : KeyMeaning) → IsWellMadeKeyMeaning k → IsUtf8 (printed_key k)
key_utf8 (truth_key b) h = truth_utf8 b
key_utf8 (number_key z) h = signed_utf8 z h
key_utf8 (text_key t) h = quoted_utf8 t h

pair_utf8 : (k : KeyMeaning) (value more : List ℕ) → IsWellMadeKeyMeaning k → IsUtf8 value → IsUtf8 more
    → IsUtf8 (printed_key k ++ codes ": " ++ value ++ more)
pair_utf8 k value more key u w = search (rules, IsUtf8-append, key_utf8)

mutual
  with_utf8 : (show : List ℕ → List ℕ) → ((t : List ℕ) → IsUtf8 t → IsUtf8 (show t)) → (x : Layout)
      → IsWellMadeLayout x → IsUtf8 (printed_with show x)
  with_utf8 show keeps undefined h = IsUtf8-nil
  with_utf8 show keeps none h = IsUtf8-nil
  with_utf8 show keeps (truth b) h = truth_utf8 b
  with_utf8 show keeps (number z) h = signed_utf8 z h
  with_utf8 show keeps (text t) h = keeps t h
  with_utf8 show keeps (bytes bs) h = lossy_utf8 bs
  with_utf8 show keeps (array xs) h =
      ascii_then 91 (printed_items xs ++ codes "]") (omega arith) (IsUtf8-append (printed_items xs) (codes "]") (items_utf8 xs h) (ascii_utf8 (codes "]") refl))
  with_utf8 show keeps (object ps) h =
      ascii_then 123 (printed_members ps ++ codes "}") (omega arith) (IsUtf8-append (printed_members ps) (codes "}") (members_utf8 ps h.1)
      (ascii_utf8 (codes "}") refl))

  items_utf8 : (xs : Items ℤ (List ℕ) KeyMeaning) → AreMadeOf (HasDistinctKeys key_order) xs → IsUtf8 (printed_items xs)
  items_utf8 no_items h = IsUtf8-nil
  items_utf8 (item x xs) h =
      IsUtf8-append (printed_with quoted x) (more_items xs) (with_utf8 quoted quoted_utf8 x h.0) (more_items_utf8 xs h.1)

  more_items_utf8 : (xs : Items ℤ (List ℕ) KeyMeaning) → AreMadeOf (HasDistinctKeys key_order) xs → IsUtf8 (more_items xs)
  more_items_utf8 no_items h = IsUtf8-nil
  more_items_utf8 (item x xs) h =
      IsUtf8-append (codes ", ") (printed_with quoted x ++ more_items xs) (ascii_utf8 (codes ", ") refl)
      (IsUtf8-append (printed_with quoted x) (more_items xs) (with_utf8 quoted quoted_utf8 x h.0) (more_items_utf8 xs h.1))

  members_utf8 : (ps : Members ℤ (List ℕ) KeyMeaning) → ArePairsOf (HasDistinctKeys key_order) ps → IsUtf8 (printed_members ps)
  members_utf8 no_members h = IsUtf8-nil
  members_utf8 (member k x ps) h =
      pair_utf8 k (printed_with quoted x) (more_members ps) h.0 (with_utf8 quoted quoted_utf8 x h.1) (more_members_utf8 ps h.2)

  more_members_utf8 : (ps : Members ℤ (List ℕ) KeyMeaning) → ArePairsOf (HasDistinctKeys key_order) ps → IsUtf8 (more_members ps)
  more_members_utf8 no_members h = IsUtf8-nil
  more_members_utf8 (member k x ps) h =
      IsUtf8-append (codes ", ") (printed_key k ++ codes ": " ++ printed_with quoted x ++ more_members ps) (ascii_utf8 (codes ", ") refl)
      (pair_utf8 k (printed_with quoted x) (more_members ps) h.0 (with_utf8 quoted quoted_utf8 x h.1) (more_members_utf8 ps h.2))

pub printed_utf8 : (x : Layout) → IsWellMadeLayout x → IsUtf8 (printed x)
printed_utf8 x = with_utf8 (λ t. t) (λ t u. u) x

pub inside_utf8 : (x : Layout) → IsWellMadeLayout x → IsUtf8 (printed_with quoted x)
inside_utf8 x = with_utf8 quoted quoted_utf8 x

pub ruleset laws = (printed_utf8, inside_utf8)
