-- Bounds: what the readers of bounds give is spelled so, and what is spelled so is read.
use Rattle.std.proofs.Common.{◌≡◌, ◌<◌, ℕ, ℤ, Bool, true, false, List, [], ◌∷◌, ◌++◌, length, ◌-◌, Option, Some, None, refl, ap, sym, ◌∙◌, ◌⊎◌, length-append}
use Rattle.std.proofs.Common.{inl, inr, arith, append_assoc, append-nil, subst}
use Rattle.std.specs.List.{list_all}
use Rattle.std.specs.Str.Parse.{IsNumeral, digits_value}
use Rattle.std.proofs.lemmas.Bool.Decides.{nat_tests}
use Rattle.std.proofs.lemmas.Str.Parse.{digit_from_value}
use Rattle.tera_meaning.specs.Integer.{i128, IsOfKind}
use Rattle.tera_script.specs.declared.bound.Bounds.{Bounds}
use Rattle.tera_script.specs.Line.{IsBound, SpellsBound, SpellsBounds}
use Rattle.tera_script.specs.Number.{sign_of, signed}
use Rattle.tera_script.specs.inner.Command.{Begins}
use Rattle.tera_script.specs.Readers.{Stops, front, past, gap_at, is_word_byte, digits_at, small_in, bound_in, bound_at, bounds_at}
use Rattle.std.proofs.lemmas.List.{nil_from_length}
use Rattle.tera_script.proofs.Fronts.{front_cut, past_stops, front_is, past_is}
use Rattle.tera_script.proofs.Integers.{magnitude_fits, digits_at_found, digits_at_only}
use Rattle.tera_script.proofs.Names.{gap_found, gap_only}
use Rattle.tera_script.proofs.Operands.{gap_ends_word}
use Rattle.tera_script.proofs.Words.{numeral_is_word, word_is_not_blank}

-- a number with this sign and no suffix, which i128 holds
abbrev IsSmallNumber : Bool → List ℕ → ℤ → Type 0
IsSmallNumber minus digits z = IsNumeral 10 digits × (z ≡ signed minus (digits_value 10 digits)) × IsOfKind i128 z

small_found : (minus : Bool) (bytes : List ℕ) (z : ℤ) → small_in minus bytes ≡ Some z → IsSmallNumber minus bytes z
unfolding small_in
small_found minus bytes z e =
    let h : (m : ℕ) × (rest : List ℕ) × (digits_at bytes ≡ Some (m, rest)) × (length rest ≡ 0) × (z ≡ signed minus m) × IsOfKind i128 z =
    grind (arith, nat_tests) in
    let digits = digits_at_found bytes h.0 h.1 h.2 in
    let all = digits.spelled ∙ ap (λ xs. digits.digits ++ xs) (nil_from_length h.1 h.3) ∙ append-nil digits.digits in
    subst (λ xs. IsSmallNumber minus xs z) (sym all) (digits.numeral, h.4 ∙ ap (signed minus) digits.value, h.5)

small_only : (minus : Bool) (digits : List ℕ) (z : ℤ) → IsSmallNumber minus digits z → small_in minus digits ≡ Some z
unfolding small_in
small_only minus digits z h =
    let fits = magnitude_fits i128 minus (digits_value 10 digits) (subst (IsOfKind i128) h.1 h.2) in
    let at_digits : digits_at digits ≡ Some (digits_value 10 digits, []) = rw append-nil at (digits_at_only digits [] h.0 fits tt) in
    rw at_digits (grind (arith, nat_tests))

bound_found : (word : List ℕ) (bound : Option ℤ) → bound_in word ≡ Some bound → IsBound word bound
unfolding bound_in
bound_found [] bound e = cc
bound_found (b ∷ bytes) None e = grind (arith, nat_tests, nil_from_length bytes)
bound_found (b ∷ bytes) (Some z) e =
    let h : ((b ≡ 45) × (small_in true bytes ≡ Some z)) ⊎ (small_in false (b ∷ bytes) ≡ Some z) = grind (arith, nat_tests) in
    elim h [
      | inl h ↦ let s = small_found true bytes z h.1 in (true, bytes, s.0, (λ i. h.0 i ∷ bytes), s.1, s.2)
      | inr h ↦ let s = small_found false (b ∷ bytes) z h in (false, b ∷ bytes, s.0, refl, s.1, s.2)
    ]

bound_only : (word : List ℕ) (bound : Option ℤ) → IsBound word bound → bound_in word ≡ Some bound
unfolding bound_in
bound_only word None h = rw h refl
bound_only word (Some z) (true, digits, numeral, spelled, value, small) = rw (spelled, small_only true digits z (numeral, value, small)) refl
bound_only word (Some z) (false, [], numeral, spelled, value, small) = absurd (omega (arith, numeral.0))
bound_only word (Some z) (false, d ∷ digits, numeral, spelled, value, small) =
    let found = small_only false (d ∷ digits) z (numeral, value, small) in
    rw spelled (grind (arith, nat_tests, digit_from_value d numeral.1.0))

-- a bound behind a gap
pub bound_at_found : (bytes : List ℕ) (bound : Option ℤ) (rest : List ℕ) → bound_at bytes ≡ Some (bound, rest)
    → Begins SpellsBound bytes bound rest × Stops is_word_byte rest
unfolding bound_at
bound_at_found bytes bound rest e =
    let h : (word : List ℕ) × (gap_at bytes ≡ Some word) × (bound_in (front is_word_byte word) ≡ Some bound) × (past is_word_byte word ≡ rest) = grind arith in
    let gap = gap_found bytes h.0 h.1 in
    let word = front is_word_byte h.0 in
    let spelled = gap.spelled ∙ ap (λ xs. gap.gap ++ xs) (front_cut is_word_byte h.0 rest h.3) ∙ sym (append_assoc gap.gap word rest) in (
      record { part = gap.gap ++ word; spells = (gap.gap, word, gap.blanks, bound_found word bound h.2, refl); spelled = spelled },
      subst (Stops is_word_byte) h.3 (past_stops is_word_byte h.0),
    )

-- the word of a bound can stand in a literal without quotes, and has a byte
bound_is_word : (word : List ℕ) (bound : Option ℤ) → IsBound word bound → (0 < length word) × (list_all is_word_byte word ≡ true)
bound_is_word word None h = rw h (omega arith, refl)
bound_is_word word (Some z) (minus, digits, numeral, spelled, value, small) =
    rw spelled (omega (arith, length-append (sign_of minus) digits, numeral.0), numeral_is_word minus digits numeral)

pub bound_at_only : (part : List ℕ) (bound : Option ℤ) (rest : List ℕ) → SpellsBound part bound → Stops is_word_byte rest → bound_at (part ++ rest)
    ≡ Some (bound, rest)
unfolding bound_at
bound_at_only part bound rest h s =
    let all = bound_is_word h.1 bound h.3 in
    let at_word : gap_at (part ++ rest) ≡ Some (h.1 ++ rest) = rw (h.4, append_assoc h.0 h.1 rest)
    (gap_only h.0 (h.1 ++ rest) h.2 (word_is_not_blank h.1 rest all.0 all.1)) in
    rw (at_word, front_is is_word_byte h.1 rest all.1 s, past_is is_word_byte h.1 rest all.1 s, bound_only h.1 bound h.3) refl

-- three bounds
pub bounds_found : (bytes : List ℕ) (bounds : Bounds) (rest : List ℕ) → bounds_at bytes ≡ Some (bounds, rest)
    → Begins SpellsBounds bytes bounds rest × Stops is_word_byte rest
unfolding bounds_at
bounds_found bytes bounds rest e =
    let h : (a b : List ℕ) × (bound_at bytes ≡ Some (bounds.start, a)) × (bound_at a ≡ Some (bounds.end, b)) × (bound_at b ≡ Some (bounds.step, rest)) =
    grind arith in
    let first = (bound_at_found bytes bounds.start h.0 h.2).0 in
    let second = (bound_at_found h.0 bounds.end h.1 h.3).0 in
    let last = bound_at_found h.1 bounds.step rest h.4 in
    let third = last.0 in
    let behind = second.spelled ∙ ap (λ xs. second.part ++ xs) third.spelled ∙ sym (append_assoc second.part third.part rest) in (
      record {
        part = first.part ++ (second.part ++ third.part);
        spells = (first.part, second.part, third.part, first.spells, second.spells, third.spells, refl);
        spelled = first.spelled ∙ ap (λ xs. first.part ++ xs) behind ∙ sym (append_assoc first.part (second.part ++ third.part) rest);
      },
      last.1,
    )

-- no word goes on where a bound follows
pub bound_ends_word : (part : List ℕ) (bound : Option ℤ) (rest : List ℕ) → SpellsBound part bound → Stops is_word_byte (part ++ rest)
bound_ends_word part bound rest h = rw (h.4, append_assoc h.0 h.1 rest) (gap_ends_word h.0 (h.1 ++ rest) h.2)

pub bounds_only : (part : List ℕ) (bounds : Bounds) (rest : List ℕ) → SpellsBounds part bounds → Stops is_word_byte rest → bounds_at (part ++ rest)
    ≡ Some (bounds, rest)
unfolding bounds_at
bounds_only part bounds rest h s =
    let spelled : part ++ rest ≡ h.0 ++ (h.1 ++ (h.2 ++ rest)) = ap (λ xs. xs ++ rest) h.6 ∙ append_assoc h.0 (h.1 ++ h.2) rest
    ∙ ap (λ xs. h.0 ++ xs) (append_assoc h.1 h.2 rest) in
    let first = bound_at_only h.0 bounds.start (h.1 ++ (h.2 ++ rest)) h.3 (bound_ends_word h.1 bounds.end (h.2 ++ rest) h.4) in
    let second = bound_at_only h.1 bounds.end (h.2 ++ rest) h.4 (bound_ends_word h.2 bounds.step rest h.5) in
    let third = bound_at_only h.2 bounds.step rest h.5 s in
    rw (spelled, first, second, third) refl
