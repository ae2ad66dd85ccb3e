-- A slice is found by meaning, and is well made.
use Rattle.std.proofs.Common.{sym, subst, rules}
use Rattle.std.proofs.lemmas.Option.{slice_get-map}
use Rattle.std.proofs.lemmas.Str.{scalars-chars}
use Rattle.std.specs.List.{AllByRecursion}
use Rattle.std.specs.Option.{unwrap_or}
use Rattle.std.specs.Prelude.{◌≡◌, ℕ, zero, suc, ℤ, pos, negsuc, List, [], Option, Result, Ok, Err, IfOk, ◌∷◌, map, unwrap_or, ◌≢◌, take}
use Rattle.std.specs.Str.{chars, encode_utf8_all}
use Rattle.tera_meaning.proofs.SliceLaws.{slice_of_is, slices_same, sliced_only}
use Rattle.tera_meaning.specs.Form.{Form}
use Rattle.tera_meaning.specs.Lookup.{seen_by}
use Rattle.tera_meaning.specs.Meaning.{layout, meaning, Meaning}
use Rattle.tera_meaning.specs.SliceRule.{IsSliceFrom, start_place, end_place, IsSliced, shape_of}
use Rattle.tera_meaning.specs.Tree.{text, array, items, items_list}
use Rattle.tera_meaning.specs.Slice.{directed, walked, slice_of, cut, cut_by, sliced}
use Rattle.tera_meaning.specs.WellMade.{IsWellMade}
use Rattle.tera_report.specs.Refusal.{Refusal, step_of_zero, not_sliceable}
use Rattle.tera_meaning.proofs.MeaningLaws.{items_laid_out, items_meant}
use Rattle.tera_meaning.proofs.ReadLemmas.{array_seen, array_shape}
use Rattle.tera_meaning.proofs.SoundLemmas.{all_reversed, listed_well, items_well, each_scalar, spelled_well}
use Rattle.std.proofs.lemmas.List.{length-map}
use Rattle.std.proofs.lemmas.Grind.{common_steps}

module _ {X Y : Type 0} (f : X → Y) where
  slice_mapped : (xs ys : List X) (start end step : ℤ) → IsSliceFrom xs start end step ys
      → IsSliceFrom (map f xs) start end step (map f ys)
  slice_mapped xs ys start end step h = search (rules, length-map, slice_get-map)

  slice_of_mapped : (xs : List X) (start end : Option ℤ) (step : ℤ) → step ≢ pos 0
      → map f (slice_of xs start end step) ≡ slice_of (map f xs) start end step
  slice_of_mapped xs start end step nonzero =
      let moved = slice_mapped xs (slice_of xs start end step) _ _ step (slice_of_is xs start end step nonzero) in
      slices_same (map f xs) _ _ _ _ step
      (subst (λ n. IsSliceFrom (map f xs) (start_place step n start) (end_place step n end) step (map f (slice_of xs start end step))) (sym (length-map xs f))
      moved)
      (slice_of_is (map f xs) start end step nonzero)

-- the slice of a meaning
abbrev cut_meaning : Meaning → Option ℤ → Option ℤ → ℤ → Result Meaning Refusal
cut_meaning (array xs) start end step = Ok (array (items (slice_of (items_list xs) start end step)))
cut_meaning (text t) start end step = Ok (text (encode_utf8_all (slice_of (chars t) start end step)))
cut_meaning x start end step = Err (not_sliceable [])

abbrev sliced_meaning : ℤ → Meaning → Option ℤ → Option ℤ → Result Meaning Refusal
sliced_meaning (pos zero) x start end = Err step_of_zero
sliced_meaning (pos (suc s)) x start end = cut_meaning x start end (pos (suc s))
sliced_meaning (negsuc s) x start end = cut_meaning x start end (negsuc s)

cut_means : (v : Form) (start end : Option ℤ) (step : ℤ) → step ≢ pos 0
    → shape_of (cut v start end step) ≡ cut_meaning (meaning v) start end step
cut_means v start end step nonzero = search (rules, array_shape, slice_of_mapped, items_meant)

cut_by_means : (step : ℤ) (v : Form) (start end : Option ℤ) → shape_of (cut_by step v start end) ≡ sliced_meaning step (meaning v) start end
cut_by_means x0 v start end = search (rules, cut_means)

pub by_meaning : (start end step : Option ℤ) (v w : Form) → meaning v ≡ meaning w
    → shape_of (sliced v start end step) ≡ shape_of (sliced w start end step)
by_meaning start end step v w e = search (rules, cut_by_means)

cut_lays_out : (v : Form) (start end : Option ℤ) (step : ℤ) → step ≢ pos 0
    → seen_by layout (cut v start end step) ≡ cut_meaning (layout v) start end step
cut_lays_out v start end step nonzero = search (rules, array_seen, slice_of_mapped, items_laid_out)

cut_by_lays_out : (step : ℤ) (v : Form) (start end : Option ℤ) → seen_by layout (cut_by step v start end) ≡ sliced_meaning step (layout v) start end
cut_by_lays_out x0 v start end = search (rules, cut_lays_out)

pub by_layout : (start end step : Option ℤ) (v w : Form) → layout v ≡ layout w
    → seen_by layout (sliced v start end step) ≡ seen_by layout (sliced w start end step)
by_layout start end step v w e = search (rules, cut_by_lays_out)

pub sliced_alike : (v w : Form) (start end step : Option ℤ) (outcome other : Result Form Refusal) → meaning v ≡ meaning w
    → IsSliced v start end step outcome → IsSliced w start end step other → shape_of outcome ≡ shape_of other
sliced_alike v w start end step outcome other e h i = search (rules, sliced_only, by_meaning)

-- ---- well made

module _ {X : Type 0} (P : X → Type 0) where
  all_first : (n : ℕ) (xs : List X) → AllByRecursion P xs → AllByRecursion P (take n xs)
  all_first x0 xs h = search (rules, common_steps)

  all_walked : (paused waits : ℕ) (xs : List X) → AllByRecursion P xs → AllByRecursion P (walked paused waits xs)
  all_walked paused waits [] h = tt
  all_walked paused zero (x ∷ xs) h = (h.0, all_walked paused paused xs h.1)
  all_walked paused (suc waits) (x ∷ xs) h = all_walked paused waits xs h.1

  all_directed : (step : ℤ) (xs : List X) → AllByRecursion P xs → AllByRecursion P (directed step xs)
  all_directed x0 xs h = search (rules, all_reversed)

  all_sliced : (xs : List X) (start end : Option ℤ) (step : ℤ) → AllByRecursion P xs
      → AllByRecursion P (slice_of xs start end step)
  all_sliced xs start end step h = search (rules, all_walked, all_first, all_directed)

cut_well : (v : Form) (start end : Option ℤ) (step : ℤ) → IsWellMade v → IfOk (cut v start end step) IsWellMade
cut_well v start end step h = search (rules, spelled_well, all_sliced, each_scalar, scalars-chars, items_well, listed_well)

cut_by_well : (step : ℤ) (v : Form) (start end : Option ℤ) → IsWellMade v → IfOk (cut_by step v start end) IsWellMade
cut_by_well x0 v start end h = search (rules, cut_well)

pub well_made : (start end step : Option ℤ) (v : Form) → IsWellMade v → IfOk (sliced v start end step) IsWellMade
well_made start end step v h = cut_by_well (unwrap_or step (pos 1)) v start end h

pub sliced_well : (v : Form) (start end step : Option ℤ) (outcome : Result Form Refusal) → IsWellMade v
    → IsSliced v start end step outcome → IfOk outcome IsWellMade
sliced_well v start end step outcome h i = search (rules, sliced_only, well_made)
