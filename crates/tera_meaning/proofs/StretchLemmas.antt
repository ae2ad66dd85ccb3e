-- A slice by a step of 1 is the items from one bound to the other.
use Rattle.std.specs.Prelude.{◌≡◌, ◌≤◌, min, ℕ, zero, suc, ℤ, pos, nat_abs, List, ◌∷◌, drop, length, take, Option, None, Some, Result, Ok}
use Rattle.std.proofs.Common.{ap, ◌∙◌, arith, rules}
use Rattle.std.proofs.lemmas.Bool.{cases_lt}
use Rattle.std.proofs.lemmas.Int.{ints, clamps}
use Rattle.std.proofs.lemmas.List.{drop_all, take_all}
use Rattle.std.specs.Str.{chars, encode_utf8_all}
use Rattle.tera_report.specs.Refusal.{Refusal}
use Rattle.tera_meaning.specs.Form.{Form, MarkedText}
use Rattle.tera_meaning.specs.Read.{items_in}
use Rattle.tera_meaning.specs.SliceRule.{IsSliced, place_of_bound, start_place, end_place}
use Rattle.tera_meaning.specs.Stretch.{up_to_bound, from_bound, stretch}
use Rattle.tera_meaning.specs.Tree.{text, array, items, items_list}
use Rattle.tera_meaning.specs.Slice.{walked, slice_of}
use Rattle.tera_meaning.proofs.SliceLaws.{sliced_only}

-- the place of a bound from 0 on, and of one below 0
at_front : (n bound : ℕ) → nat_abs (place_of_bound (pos 1) n (pos bound)) ≡ min bound n
at_front n bound = omega (arith, ints, clamps)

module _ {X : Type 0} where
  -- a walk that does not pause takes what is behind those that it passes over
  walked_on : (waits : ℕ) (xs : List X) → walked 0 waits xs ≡ drop waits xs
  walked_on zero (x ∷ xs) = search (rules, (walked_on zero xs))
  walked_on (suc waits) (x ∷ xs) = search (rules, (walked_on waits xs))
  walked_on x0 x1 = search rules

  drop_at_most : (bound n : ℕ) (xs : List X) → length xs ≤ n → drop (min bound n) xs ≡ drop bound xs
  drop_at_most bound n xs within = search (rules, cases_lt, drop_all)

  taken_up_to : (end : Option ℤ) (xs : List X) → take (nat_abs (end_place (pos 1) (length xs) end)) xs ≡ up_to_bound end xs
  taken_up_to x0 xs = search (rules, take_all)

  dropped_from : (count : ℕ) (start : Option ℤ) (xs : List X) → length xs ≤ count
      → drop (nat_abs (start_place (pos 1) count start)) xs ≡ from_bound count start xs
  dropped_from count x1 xs within = search (rules, at_front, drop_at_most)

  pub slice_is_stretch : (xs : List X) (start end : Option ℤ) → slice_of xs start end (pos 1) ≡ stretch xs start end
  slice_is_stretch xs start end = search (rules, walked_on, taken_up_to, dropped_from)

pub array_stretch : (v : Form) (xs : List Form) (start end : Option ℤ) (outcome : Result Form Refusal)
    → items_in v ≡ Some xs → IsSliced v start end None outcome → outcome ≡ Ok (array (items (stretch xs start end)))
array_stretch (array ys) xs start end outcome holds is =
    let same : items_list ys ≡ xs = cc in
    sliced_only (array ys) start end None outcome is
    ∙ ap (λ (zs : List Form). Ok (array (items zs))) (slice_is_stretch (items_list ys) start end)
    ∙ ap (λ (zs : List Form). Ok (array (items (stretch zs start end)))) same
array_stretch v xs start end outcome holds is = cc

pub text_stretch : (t : MarkedText) (start end : Option ℤ) (outcome : Result Form Refusal) → IsSliced (text t) start end None outcome
    → outcome ≡ Ok (text (record { spelled = encode_utf8_all (stretch (chars t.spelled) start end); safe = t.safe }))
text_stretch t start end outcome is =
    sliced_only (text t) start end None outcome is
    ∙ ap (λ (cs : List ℕ). Ok (text (record { spelled = encode_utf8_all cs; safe = t.safe }))) (slice_is_stretch (chars t.spelled) start end)
