-- From a walk over items to a slice of them, and slices as the walk gives them.
use Rattle.std.specs.Prelude.{◌≡◌, ◌≢◌, ◌<◌, ◌≤◌, ◌+◌, ◌*◌, ◌-◌, min, ℕ, zero, suc, ℤ, pos, negsuc, ◌-ℤ◌, ◌≤ℤ◌, List, [], ◌∷◌, reverse, length, take, slice_get}
use Rattle.std.specs.Prelude.{Option, None, Some, Result, Ok, refl, unwrap_or}
use Rattle.std.proofs.Common.{refl, true, sym, ap, ◌∙◌, subst, arith, rules}
use Rattle.std.proofs.lemmas.Int.{ints}
use Rattle.std.proofs.lemmas.List.{get_or-reverse, length-reverse}
use Rattle.std.proofs.lemmas.Option.{slice_get-get_or}
use Rattle.tera_meaning.specs.SliceRule.{IsSliceFrom, IsSliceOf, start_place, end_place, least_place, greatest_place, reversed, IsCut, IsCutBy, IsSliced}
use Rattle.tera_meaning.specs.Slice.{directed, place_behind, distance, pause, walked, IsStrided, slice_of, cut, cut_by, sliced}
use Rattle.std.proofs.lemmas.Str.{encodes-chars}
use Rattle.std.specs.Option.{unwrap_or}
use Rattle.std.specs.Str.{chars, encode_utf8_all, IsUtf8}
use Rattle.tera_meaning.specs.Form.{Form, MarkedText}
use Rattle.tera_meaning.specs.Read.{iterable_in}
use Rattle.tera_meaning.specs.Tree.{text, bytes, array, items, items_list}
use Rattle.tera_meaning.proofs.TreeLaws.{list_of_items}
use Rattle.tera_report.specs.Refusal.{Refusal}
use Rattle.std.proofs.lemmas.Grind.{common_steps}

-- a place between the least and the greatest is as far behind the first as its distance
pub distance_behind : (step z : ℤ) (n : ℕ) → least_place step ≤ℤ z → z ≤ℤ greatest_place step n
    → (place_behind step n (distance step n z) ≡ z) × (distance step n z ≤ n)
distance_behind x0 z n low high = search rules

start_between : (step : ℤ) (start : Option ℤ) (n : ℕ) → (least_place step ≤ℤ start_place step n start) × (start_place step n start ≤ℤ greatest_place step n)
start_between step x1 n = search rules

end_between : (step : ℤ) (end : Option ℤ) (n : ℕ) → (least_place step ≤ℤ end_place step n end) × (end_place step n end ≤ℤ greatest_place step n)
end_between step x1 n = search rules

module _ {X : Type 0} where
  forward : (xs ys : List X) (from until s : ℕ) → IsStrided xs from until (suc s) ys
      → IsSliceFrom xs (pos from) (pos until) (pos (suc s)) ys
  forward xs ys from until s h = search rules

  get_reversed : (xs : List X) (k j : ℕ) → k + j + 1 ≡ length xs → slice_get (reverse xs) k ≡ slice_get xs j
  get_reversed [] k j e = absurd (omega arith)
  get_reversed (x ∷ xs) k j e =
      let at : k < length (reverse (x ∷ xs)) = omega (arith, length-reverse (x ∷ xs)) in
      let same : length (x ∷ xs) - 1 - k ≡ j = omega arith in
      slice_get-get_or (reverse (x ∷ xs)) k x at
      ∙ ap Some (get_or-reverse (x ∷ xs) k x (omega arith))
      ∙ sym (slice_get-get_or (x ∷ xs) (length (x ∷ xs) - 1 - k) x (omega arith))
      ∙ ap (slice_get (x ∷ xs)) same

  backward : (xs ys : List X) (from until s : ℕ) → until ≤ length xs → IsStrided (reverse xs) from until (suc s) ys
      → IsSliceFrom xs (pos (length xs) -ℤ pos (suc from)) (pos (length xs) -ℤ pos (suc until)) (negsuc s) ys
  backward xs ys from until s within h = search (rules, get_reversed)

  -- each by-th of the items in the direction of a step are the slice from the place where they begin to the one where
  -- they end
  pub strided_is_slice : (xs ys : List X) (start end step : ℤ) (from until : ℕ) → step ≢ pos 0 → until ≤ length xs
      → place_behind step (length xs) from ≡ start → place_behind step (length xs) until ≡ end
      → IsStrided (directed step xs) from until (suc (pause step)) ys → IsSliceFrom xs start end step ys
  strided_is_slice xs ys start end (pos zero) from until nonzero within s e h = absurd (nonzero refl)
  strided_is_slice xs ys start end (pos (suc n)) from until nonzero within s e h = search (rules, forward)
  strided_is_slice xs ys start end (negsuc n) from until nonzero within s e h =
      subst (λ z. IsSliceFrom xs z end (negsuc n) ys) s
      (subst (λ z. IsSliceFrom xs (pos (length xs) -ℤ pos (suc from)) z (negsuc n) ys) e (backward xs ys from until n within h))

  first_before : (p m : ℕ) (xs ys : List X) (k : ℕ) → k < suc (length ys) → IsStrided xs p m (suc p) ys
      → 0 + k * suc p < suc m
  first_before p m xs ys zero b h = omega arith
  first_before p m xs ys (suc k) b h = let e = h.before k (omega arith) in omega arith

  first_taken : (p m : ℕ) (x : X) (xs ys : List X) (k : ℕ) → k < suc (length ys) → IsStrided xs p m (suc p) ys
      → slice_get (x ∷ ys) k ≡ slice_get (x ∷ xs) (0 + k * suc p)
  first_taken p m x xs ys x5 b h = search rules

  -- a walk takes each by-th of the items
  pub walked_strides : (p waits until : ℕ) (xs : List X)
      → IsStrided xs waits (min until (length xs)) (suc p) (walked p waits (take until xs))
  walked_strides p zero (suc until) (x ∷ xs) =
      let ys = walked p p (take until xs) in
      let h = walked_strides p p until xs in
      let reached = h.reached in
      record {
        reached = omega arith;
        before = λ k b. let e = first_before p (min until (length xs)) xs ys k b h in omega arith;
        taken = λ k b. first_taken p (min until (length xs)) x xs ys k b h;
      }
  walked_strides p (suc waits) (suc until) (x ∷ xs) = search (rules, (walked_strides p waits until xs))
  walked_strides p waits x2 xs = search rules

  pub length_directed : (step : ℤ) (xs : List X) → length (directed step xs) ≡ length xs
  length_directed x0 xs = search (rules, length-reverse)

  -- the walk gives a slice
  pub slice_of_is : (xs : List X) (start end : Option ℤ) (step : ℤ) → step ≢ pos 0
      → IsSliceOf xs start end step (slice_of xs start end step)
  slice_of_is xs start end step nonzero =
      let n = length xs in
      let from = distance step n (start_place step n start) in
      let until = distance step n (end_place step n end) in
      let s = start_between step start n in
      let e = end_between step end n in
      let at_start = distance_behind step (start_place step n start) n s.0 s.1 in
      let at_end = distance_behind step (end_place step n end) n e.0 e.1 in
      let same : min until (length (directed step xs)) ≡ until = omega (arith, at_end.1, length_directed step xs) in
      strided_is_slice xs (slice_of xs start end step) _ _ step from until nonzero at_end.1 at_start.0 at_end.0
      (subst (λ m. IsStrided (directed step xs) from m (suc (pause step)) (slice_of xs start end step)) same
      (walked_strides (pause step) from until (directed step xs)))

  -- ---- only one list is the slice

  -- two lists of the same items are one
  pub same_items : (xs ys : List X) → length xs ≡ length ys → ((k : ℕ) → k < length xs → slice_get xs k ≡ slice_get ys k) → xs ≡ ys
  same_items [] [] e h = refl
  same_items [] (y ∷ ys) e h = absurd (omega arith)
  same_items (x ∷ xs) [] e h = absurd (omega arith)
  same_items (x ∷ xs) (y ∷ ys) e h =
      let first : Some x ≡ Some y = h 0 (omega arith) in
      let rest = same_items xs ys (omega arith) (λ k b. h (suc k) (omega arith)) in
      let head : x ≡ y = cc in
      ap (λ z. z ∷ xs) head ∙ ap (λ zs. y ∷ zs) rest

  no_longer : (xs ys zs : List X) (start end step : ℤ) → IsSliceFrom xs start end step ys → IsSliceFrom xs start end step zs
      → length ys ≤ length zs
  no_longer xs ys zs start end step h i = search rules

  pub slices_same : (xs ys zs : List X) (start end step : ℤ) → IsSliceFrom xs start end step ys
      → IsSliceFrom xs start end step zs → ys ≡ zs
  slices_same xs ys zs start end step h i = grind (arith, common_steps, no_longer, same_items)

cut_is : (v : Form) (start end : Option ℤ) (step : ℤ) → step ≢ pos 0 → IsCut v start end step (cut v start end step)
cut_is (text t) start end step nonzero =
    (slice_of (chars t.spelled) start end step, slice_of_is (chars t.spelled) start end step nonzero, refl)
cut_is (array xs) start end step nonzero =
    (slice_of (items_list xs) start end step, slice_of_is (items_list xs) start end step nonzero, refl)
cut_is v start end step nonzero = refl

cut_only : (v : Form) (start end : Option ℤ) (step : ℤ) (outcome : Result Form Refusal) → step ≢ pos 0
    → IsCut v start end step outcome → outcome ≡ cut v start end step
cut_only (text t) start end step outcome nonzero h =
    let (cs, is, e) = h in
    let same = slices_same (chars t.spelled) cs _ _ _ step is (slice_of_is (chars t.spelled) start end step nonzero) in
    e ∙ ap (λ (ds : List ℕ). Ok (text (record { spelled = encode_utf8_all ds; safe = t.safe }))) same
cut_only (array xs) start end step outcome nonzero h =
    let (ys, is, e) = h in
    let same = slices_same (items_list xs) ys _ _ _ step is (slice_of_is (items_list xs) start end step nonzero) in
    e ∙ ap (λ (zs : List Form). Ok (array (items zs))) same
cut_only v start end step outcome nonzero h = h

cut_by_is : (step : ℤ) (v : Form) (start end : Option ℤ) → IsCutBy step v start end (cut_by step v start end)
cut_by_is x0 v start end = search (rules, cut_is)

cut_by_only : (step : ℤ) (v : Form) (start end : Option ℤ) (outcome : Result Form Refusal)
    → IsCutBy step v start end outcome → outcome ≡ cut_by step v start end
cut_by_only x0 v start end outcome h = search (rules, cut_only)

pub sliced_is : (v : Form) (start end step : Option ℤ) → IsSliced v start end step (sliced v start end step)
sliced_is v start end step = cut_by_is (unwrap_or step (pos 1)) v start end

pub sliced_only : (v : Form) (start end step : Option ℤ) (outcome : Result Form Refusal)
    → IsSliced v start end step outcome → outcome ≡ sliced v start end step
sliced_only v start end step outcome h = cut_by_only (unwrap_or step (pos 1)) v start end outcome h

-- ---- the whole, and the other way round

module _ {X : Type 0} where
  pub whole_slice : (xs : List X) → IsSliceOf xs None None (pos 1) xs
  whole_slice xs = search rules

  pub backward_slice : (xs : List X) → IsSliceOf xs None None (negsuc 0) (reverse xs)
  backward_slice xs =
      let n = length xs in
      let backwards : negsuc 0 ≢ pos 0 = λ e. cc in
      strided_is_slice xs (reverse xs) _ _ (negsuc 0) 0 n backwards (omega arith) (omega (arith, ints)) (omega (arith, ints)) (record {
        reached = omega (arith, length-reverse xs);
        before = λ k b. omega (arith, length-reverse xs);
        taken = λ k b. let at : k ≡ 0 + k * 1 = omega arith in ap (slice_get (reverse xs)) at;
      })

pub whole_array : (xs : List Form) → IsSliced (array (items xs)) None None None (Ok (array (items xs)))
whole_array xs = search (rules, list_of_items)

pub whole_text : (t : MarkedText) → IsUtf8 t.spelled → IsSliced (text t) None None None (Ok (text t))
whole_text t utf8 = (
  chars t.spelled,
  whole_slice (chars t.spelled),
  ap (λ (bs : List ℕ). Ok (text (record { spelled = bs; safe = t.safe }))) (sym (encodes-chars t.spelled utf8)),
)

pub backward_array : (xs : List Form) → IsSliced (array (items xs)) None None (Some (negsuc 0)) (reversed (array (items xs)))
backward_array xs = (reverse (items_list (items xs)), backward_slice (items_list (items xs)), refl)

pub backward_text : (t : MarkedText) → IsSliced (text t) None None (Some (negsuc 0))
    (Ok (text (record { spelled = encode_utf8_all (reverse (chars t.spelled)); safe = t.safe })))
backward_text t = (reverse (chars t.spelled), backward_slice (chars t.spelled), refl)

-- what is sliced, or reversed, has parts
cut_parts : (v w : Form) (start end : Option ℤ) (step : ℤ) → cut v start end step ≡ Ok w → iterable_in w ≡ true
cut_parts (array xs) w start end step e = cc
cut_parts (text t) w start end step e = cc
cut_parts v w start end step e = cc

cut_by_parts : (step : ℤ) (v w : Form) (start end : Option ℤ) → cut_by step v start end ≡ Ok w → iterable_in w ≡ true
cut_by_parts (pos zero) v w start end e = cc
cut_by_parts (pos (suc n)) v w start end e = cut_parts v w start end (pos (suc n)) e
cut_by_parts (negsuc n) v w start end e = cut_parts v w start end (negsuc n) e

pub sliced_parts : (v w : Form) (start end step : Option ℤ) → IsSliced v start end step (Ok w) → iterable_in w ≡ true
sliced_parts v w start end step h =
    cut_by_parts (unwrap_or step (pos 1)) v w start end (sym (sliced_only v start end step (Ok w) h))

pub reversed_parts : (v w : Form) → reversed v ≡ Ok w → iterable_in w ≡ true
reversed_parts (array xs) w e = cc
reversed_parts (text t) w e = cc
reversed_parts (bytes bs) w e = cc
reversed_parts v w e = cc
