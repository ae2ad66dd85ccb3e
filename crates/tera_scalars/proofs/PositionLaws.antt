-- A walk over places that fit machine integers takes the slice between the bounds that it was made of.
use Rattle.std.specs.Prelude.{◌≡◌, ◌≢◌, ◌⊎◌, ◌<◌, ◌≤◌, ◌+◌, ◌-◌, ◌*◌, ◌^◌, min, ℕ, zero, suc, ℤ, pos, negsuc, false, ◌||◌, List, [], ◌∷◌, length, take, drop}
use Rattle.std.specs.Prelude.{slice_get, Option, None, Some}
use Rattle.std.proofs.Common.{refl, ap, subst, arith, inl, inr}
use Rattle.std.proofs.{Math.Nat.mul-le-mul_left, lemmas.Bool.cases_lt, lemmas.Bool.or_parts, lemmas.Int.ints, lemmas.Int.clamps}
use Rattle.tera_meaning.specs.Slice.{IsStrided, directed, pause, place_behind, walked}
use Rattle.tera_meaning.specs.SliceRule.{IsSliceOf, start_place, end_place}
use Rattle.tera_meaning.proofs.SliceLaws.{strided_is_slice, walked_strides, length_directed}
use Rattle.tera_scalars.specs.inner.Positions.{counts_from_afar}

module _ {X : Type 0} where
  -- a step that passes the end wherever it starts takes the same as a greater one
  widened : (xs ys : List X) (from until by step : ℕ) → by ≤ step → until ≤ by → IsStrided xs from until by ys
      → IsStrided xs from until step ys
  widened xs ys from until by step less far h = record {
    reached = let more = mul-le-mul_left (length ys) less in omega (arith, h.reached);
    before = λ k b. subst (λ m. from + m < until) (place k b) (h.before k b);
    taken = λ k b. subst (λ m. slice_get ys k ≡ slice_get xs (from + m)) (place k b) (h.taken k b);
  }
    where
      place : (k : ℕ) → k < length ys → k * by ≡ k * step
      place zero b = omega arith
      place (suc k) b = let e = h.before (suc k) b in absurd (omega arith)

  paced : (xs ys : List X) (from until by : ℕ) (step : ℤ) → until < 2 ^ 64 → by ≡ min (suc (pause step)) (2 ^ 64 - 1)
      → IsStrided xs from until by ys → IsStrided xs from until (suc (pause step)) ys
  paced xs ys from until by step fits pace h = elim (cases_lt (2 ^ 64 - 1) (suc (pause step))) [
    | inl far ↦ widened xs ys from until by (suc (pause step)) (omega arith) (omega arith) h
    | inr near ↦ let same : by ≡ suc (pause step) = omega arith in subst (λ n. IsStrided xs from until n ys) same h
  ]

  pub stride_slices : (xs ys : List X) (start end : Option ℤ) (step : ℤ) (from until by : ℕ) → step ≢ pos 0
      → length xs < 2 ^ 64 → until ≤ length xs → place_behind step (length xs) from ≡ start_place step (length xs) start
      → place_behind step (length xs) until ≡ end_place step (length xs) end → by ≡ min (suc (pause step)) (2 ^ 64 - 1)
      → IsStrided (directed step xs) from until by ys → IsSliceOf xs start end step ys
  stride_slices xs ys start end step from until by nonzero fits within s e pace h =
      strided_is_slice xs ys _ _ step from until nonzero within s e
      (paced (directed step xs) ys from until by step (omega arith) pace h)

  -- a walk that starts behind the last item takes what one does that starts there
  settled : (xs ys : List X) (from until by m : ℕ) → until ≤ m → IsStrided xs from until by ys
      → IsStrided xs (min from m) until by ys
  settled xs ys from until by m within h = record {
    reached = omega (arith, h.reached);
    before = λ k b. omega (arith, h.before k b);
    taken = λ k b. subst (λ i. slice_get ys k ≡ slice_get xs i) (omega (arith, h.before k b)) (h.taken k b);
  }

-- a bound that takes no count has its place among fewer items too
uncounted : (step : ℤ) (bound : Option ℤ) (n m at : ℕ) → m ≤ n → counts_from_afar step bound ≡ false
    → (place_behind step n at ≡ start_place step n bound → place_behind step m (min at m) ≡ start_place step m bound)
    × (place_behind step n at ≡ end_place step n bound → place_behind step m (min at m) ≡ end_place step m bound)
uncounted (pos s) None n m at less near = ((λ e. omega (arith, ints)), (λ e. omega (arith, ints)))
uncounted (negsuc s) None n m at less near = ((λ e. omega (arith, ints)), (λ e. omega (arith, ints)))
uncounted (pos s) (Some (pos b)) n m at less near = ((λ e. omega (arith, ints, clamps)), (λ e. omega (arith, ints, clamps)))
uncounted (pos s) (Some (negsuc b)) n m at less near = cc
uncounted (negsuc s) (Some (pos b)) n m at less near = cc
uncounted (negsuc s) (Some (negsuc b)) n m at less near = ((λ e. omega (arith, ints, clamps)), (λ e. omega (arith, ints, clamps)))

module _ {X : Type 0} where
  -- the length is the count, or more where no bound takes the count
  pub walk_slices : (xs : List X) (start end : Option ℤ) (step : ℤ) (n from until by : ℕ) → step ≢ pos 0
      → n < 2 ^ 64 → length xs ≤ n → from ≤ n → until ≤ n
      → ((counts_from_afar step start || counts_from_afar step end) ≡ false) ⊎ (n ≡ length xs)
      → place_behind step n from ≡ start_place step n start → place_behind step n until ≡ end_place step n end
      → by ≡ min (suc (pause step)) (2 ^ 64 - 1)
      → IsSliceOf xs start end step (walked (by - 1) from (take until (directed step xs)))
  walk_slices xs start end step n from until by nonzero fits less from_in until_in known s e pace =
      let m = length xs in
      let ys = walked (by - 1) from (take until (directed step xs)) in
      let one_on : suc (by - 1) ≡ by = omega arith in
      let places : (place_behind step m (min from m) ≡ start_place step m start) × (place_behind step m (min until m) ≡ end_place step m end) =
      elim known [
        | inl near ↦
            let both = or_parts (counts_from_afar step start) (counts_from_afar step end) near in
            ((uncounted step start n m from less both.0).0 s, (uncounted step end n m until less both.1).1 e)
        | inr same ↦
            let first : min from m ≡ from = omega arith in
            let last : min until m ≡ until = omega arith in
            (rw first (rw same at s), rw last (rw same at e))
      ] in
      let walk = rw (length_directed step xs, one_on) at (walked_strides (by - 1) from until (directed step xs)) in
      stride_slices xs ys start end step (min from m) (min until m) by nonzero (omega arith) (omega arith) places.0 places.1 pace
      (settled (directed step xs) ys from (min until m) by m (omega arith) walk)

  -- to wait at the front is to walk over what stands behind
  pub walked_on : (p waits : ℕ) (xs : List X) → walked p waits xs ≡ walked p 0 (drop waits xs)
  walked_on p zero xs = refl
  walked_on p (suc waits) [] = refl
  walked_on p (suc waits) (x ∷ xs) = walked_on p waits xs

  -- a walk by one takes each item
  pub walked_whole : (xs : List X) → walked 0 0 xs ≡ xs
  walked_whole [] = refl
  walked_whole (x ∷ xs) = ap (λ ys. x ∷ ys) (walked_whole xs)
