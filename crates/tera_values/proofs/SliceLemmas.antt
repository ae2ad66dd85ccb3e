-- Items that a walk takes one at a time.
use Rattle.std.specs.Prelude.{◌≡◌, ◌≢◌, ◌<◌, ◌≤◌, ◌+◌, ◌-◌, ◌*◌, ◌^◌, min, ℕ, zero, suc, ℤ, pos, negsuc, int_lt, Bool, true, false, List, [], ◌∷◌, ◌++◌, length}
use Rattle.std.specs.Prelude.{slice_get, Option, Some, Result, Ok, Err, IfOk, IfErr}
use Rattle.std.proofs.Common.{refl, sym, ap, ◌∙◌, subst, arith, inl, inr, length-append, ltb-true, reverse, take}
use Rattle.std.proofs.Math.Nat.{lt_of_mul-lt-mul_right}
use Rattle.std.proofs.lemmas.Bool.{cases_lt}
use Rattle.std.proofs.lemmas.Grind.{div_ceil_times}
use Rattle.std.proofs.lemmas.Int.{ints}
use Rattle.std.proofs.lemmas.List.{length-reverse, nil_from_length, take_more}
use Rattle.std.proofs.lemmas.Option.{get_or_from_slice_get}
use Rattle.std.specs.Int.{div_ceil}
use Rattle.std.proofs.lemmas.Str.{encodes-chars, encodes_same}
use Rattle.std.specs.Str.{chars, encode_utf8_all, IsUtf8}
use Rattle.std.specs.Option.{unwrap_or}
use Rattle.tera_report.specs.Errors.{Refuses}
use Rattle.tera_report.specs.Refusal.{Refusal, step_of_zero}
use Rattle.tera_report.specs.declared.errors.Error.{Error}
use Rattle.tera_meaning.specs.Form.{Form}
use Rattle.tera_meaning.specs.Meaning.{meaning}
use Rattle.tera_meaning.specs.Read.{truthy_in}
use Rattle.tera_meaning.specs.Tree.{array, items}
use Rattle.tera_meaning.proofs.TreeLaws.{list_of_items}
use Rattle.tera_meaning.specs.SliceRule.{IsSliceOf, IsCutBy, IsSliced, start_place, end_place, reversed}
use Rattle.tera_meaning.specs.Slice.{IsStrided, directed, pause, place_behind, slice_of, cut, cut_by, sliced}
use Rattle.tera_values.specs.View.{marked}
use Rattle.tera_values.proofs.CopyLemmas.{no_items_held, no_text}
use Rattle.tera_meaning.proofs.SliceLaws.{slices_same, slice_of_is, sliced_is, sliced_only}
use Rattle.tera_scalars.proofs.PositionLaws.{stride_slices}
use Rattle.tera_scalars.specs.Positions.{turned}

-- the walk took these so far, and stands at the next one, or at the greatest machine integer where that is less
pub record IsSoFar {X : Type 0} (xs : List X) (from until by place : ℕ) (ys : List X) : Type 0 where
  pub next : place ≡ min (from + length ys * by) (2 ^ 64 - 1)
  pub before : (k : ℕ) → k < length ys → from + k * by < until
  pub taken : (k : ℕ) → k < length ys → slice_get ys k ≡ slice_get xs (from + k * by)

module _ {X : Type 0} where
  get_front : (xs ys : List X) (k : ℕ) → k < length xs → slice_get (xs ++ ys) k ≡ slice_get xs k
  get_front [] ys k h = absurd (omega arith)
  get_front (x ∷ xs) ys zero h = refl
  get_front (x ∷ xs) ys (suc k) h = get_front xs ys k (omega arith)

  get_last : (xs : List X) (x : X) → slice_get (xs ++ x ∷ []) (length xs) ≡ Some x
  get_last [] x = refl
  get_last (y ∷ xs) x = get_last xs x

  pub none_so_far : (xs ys : List X) (from until by : ℕ) → from < 2 ^ 64 → ys ≡ [] → IsSoFar xs from until by from ys
  none_so_far xs ys from until by fits none = subst (IsSoFar xs from until by from) (sym none) (record {
    next = omega arith;
    before = λ k b. absurd (omega arith);
    taken = λ k b. absurd (omega arith);
  })

  one_more : (xs ys : List X) (x : X) (from until by place : ℕ) → place < until → until < 2 ^ 64
      → slice_get xs place ≡ Some x → IsSoFar xs from until by place ys
      → IsSoFar xs from until by (min (place + by) (2 ^ 64 - 1)) (ys ++ x ∷ [])
  one_more xs ys x from until by place inside fits is h =
      let here : place ≡ from + length ys * by = omega (arith, h.next) in
      let longer : suc (length ys) ≡ length (ys ++ x ∷ []) = omega (arith, length-append ys (x ∷ [])) in
      record {
        next =
            let e : min (place + by) (2 ^ 64 - 1) ≡ min (from + suc (length ys) * by) (2 ^ 64 - 1) = omega arith in
            e ∙ ap (λ n. min (from + n * by) (2 ^ 64 - 1)) longer;
        before = λ k b. elim (cases_lt k (length ys)) [
          | inl less ↦ h.before k less
          | inr most ↦
              let last : length ys ≡ k = omega arith in subst (λ i. from + i * by < until) last (omega arith)
        ];
        taken = λ k b. elim (cases_lt k (length ys)) [
          | inl less ↦ get_front ys (x ∷ []) k less ∙ h.taken k less
          | inr most ↦
              let last : length ys ≡ k = omega arith in
              subst (λ i. slice_get (ys ++ x ∷ []) i ≡ slice_get xs (from + i * by)) last
              (get_last ys x ∙ sym is ∙ ap (slice_get xs) here)
        ];
      }

  -- while the walk goes on, there is room for one more
  pub room_left : (xs ys : List X) (from until by place room : ℕ) → place < until → until < 2 ^ 64 → 0 < by
      → div_ceil (until - from) by ≤ room → IsSoFar xs from until by place ys → length ys < room
  room_left xs ys from until by place room inside fits moves most h =
      fewer (length ys) (div_ceil (until - from) by) (omega (arith, h.next)) ((div_ceil_times (until - from) by moves).0) most
    where
      fewer : (taken count : ℕ) → place ≡ from + taken * by → until - from ≤ count * by → count ≤ room → taken < room
      fewer taken count here enough most =
          let less : taken * by < count * by = omega arith in
          let below = lt_of_mul-lt-mul_right by less in
          omega arith

  -- the same where a copy of the item was put, and the next place was reckoned
  pub copied : (xs ys made : List X) (x y : X) (from until by place next : ℕ) → place < until → until < 2 ^ 64
      → slice_get xs place ≡ Some x → IsSoFar xs from until by place ys → y ≡ x → made ≡ ys ++ y ∷ []
      → next ≡ min (place + by) (2 ^ 64 - 1) → IsSoFar xs from until by next made
  copied xs ys made x y from until by place next inside fits is h same put on =
      subst (IsSoFar xs from until by next) (sym (put ∙ ap (λ z. ys ++ z ∷ []) same))
      (subst (λ p. IsSoFar xs from until by p (ys ++ x ∷ [])) (sym on) (one_more xs ys x from until by place inside fits is h))

  -- a copy of the next one from the back was put
  pub last_copied : (xs ys made : List X) (x y : X) (place : ℕ) → place < length xs → slice_get (reverse xs) place ≡ Some x → y ≡ x
      → ys ≡ take place (reverse xs) → made ≡ ys ++ y ∷ [] → made ≡ take (place + 1) (reverse xs)
  last_copied xs ys made x y place inside is same so_far put =
      let within : place < length (reverse xs) = omega (arith, length-reverse xs) in
      put ∙ (λ j. so_far j ++ same j ∷ [])
      ∙ ap (λ z. take place (reverse xs) ++ z ∷ []) (sym (get_or_from_slice_get (reverse xs) place x x is))
      ∙ sym (take_more (reverse xs) place x within)

  pub all_so_far : (xs ys : List X) (from until by place : ℕ) → until ≤ place → IsSoFar xs from until by place ys
      → IsStrided xs from until by ys
  all_so_far xs ys from until by place ended h = record {
    reached = omega (arith, h.next);
    before = h.before;
    taken = h.taken;
  }

  pub turned_directed : (step : ℤ) (backwards : Bool) (xs : List X) → backwards ≡ int_lt step (pos 0)
      → turned backwards xs ≡ directed step xs
  turned_directed (pos n) false xs e = refl
  turned_directed (pos n) true xs e = let less = ltb-true n 0 (sym e) in absurd (omega arith)
  turned_directed (negsuc n) false xs e = cc
  turned_directed (negsuc n) true xs e = refl

  -- what is found are the items of the slice
  pub sliced_found : {V E : Type 0} (held : V → List X) (r : Result V E) (xs : List X) (start end : Option ℤ) (step z : ℤ)
      (from until by : ℕ) → z ≡ step → length xs < 2 ^ 64 → until ≤ length xs
      → place_behind z (length xs) from ≡ start_place z (length xs) start
      → place_behind z (length xs) until ≡ end_place z (length xs) end → by ≡ min (suc (pause z)) (2 ^ 64 - 1)
      → IfOk r (λ v. IsStrided (turned (int_lt z (pos 0)) xs) from until by (held v))
      → IfOk r (λ v. step ≢ pos 0 → held v ≡ slice_of xs start end step)
  sliced_found held (Err e) xs start end step z from until by same fits within s last pace h = h
  sliced_found held (Ok v) xs start end step z from until by same fits within s last pace h =
      subst (λ k. k ≢ pos 0 → held v ≡ slice_of xs start end k) same (λ nonzero.
      slices_same xs (held v) (slice_of xs start end z) _ _ z
      (stride_slices xs (held v) start end z from until by nonzero fits within s last pace
      (subst (λ ys. IsStrided ys from until by (held v)) (turned_directed z (int_lt z (pos 0)) xs refl) h))
      (slice_of_is xs start end z nonzero))

  -- a slice without items ends where it starts, or before
  pub none_taken : (xs : List X) (start end : Option ℤ) (step z : ℤ) (from until : ℕ) → z ≡ step → step ≢ pos 0
      → from ≤ length xs → until ≤ length xs → place_behind z (length xs) from ≡ start_place z (length xs) start
      → place_behind z (length xs) until ≡ end_place z (length xs) end → slice_of xs start end step ≡ [] → until ≤ from
  none_taken xs start end step z from until same nonzero f u first last none =
      ends_first xs start end z from until (λ e. nonzero (sym same ∙ e)) f u first last
      (ap (slice_of xs start end) same ∙ none)
    where
      ends_first : (xs : List X) (start end : Option ℤ) (z : ℤ) (from until : ℕ) → z ≢ pos 0
          → from ≤ length xs → until ≤ length xs → place_behind z (length xs) from ≡ start_place z (length xs) start
          → place_behind z (length xs) until ≡ end_place z (length xs) end → slice_of xs start end z ≡ [] → until ≤ from
      ends_first xs start end (pos s) from until nonzero f u first last none =
          let reached = (subst (IsSliceOf xs start end (pos s)) none (slice_of_is xs start end (pos s) nonzero)).reached in
          omega (arith, ints, reached, first, last)
      ends_first xs start end (negsuc s) from until nonzero f u first last none =
          let reached = (subst (IsSliceOf xs start end (negsuc s)) none (slice_of_is xs start end (negsuc s) nonzero)).reached in
          omega (arith, ints, reached, first, last)

-- what holds of the value that a result is, if it is one
pub where_ok : {X E : Type 0} (r : Result X E) (P : X → Type 0) → ((x : X) → r ≡ Ok x → P x) → IfOk r P
where_ok (Ok x) P h = h x refl
where_ok (Err e) P h = tt

none_behind : {X : Type 0} (xs : List X) → reverse xs ≡ [] → xs ≡ []
none_behind xs e = nil_from_length xs (omega (arith, length-reverse xs, ap length e))

-- what is empty the other way round is empty
pub none_turned : (v made : Form) (xs : List Form) → array (items xs) ≡ v → reversed v ≡ Ok made → truthy_in (meaning made) ≡ false
    → xs ≡ []
none_turned v made xs held turns empty =
    let is : Ok (array (items (reverse xs))) ≡ Ok made =
    sym (ap (λ (zs : List Form). Ok (array (items (reverse zs)))) (list_of_items xs)) ∙ ap reversed held ∙ turns
    in
    let made_is : array (items (reverse xs)) ≡ made = cc in
    none_behind xs (no_items_held made (reverse xs) made_is empty)

pub none_turned_of_text : (v made : Form) (bs : List ℕ) (safe : Bool) → IsUtf8 bs → marked bs safe ≡ v → reversed v ≡ Ok made
    → truthy_in (meaning made) ≡ false → bs ≡ []
none_turned_of_text v made bs safe utf8 held turns empty =
    let is : Ok (marked (encode_utf8_all (reverse (chars bs))) false) ≡ Ok made = ap reversed held ∙ turns in
    let made_is : marked (encode_utf8_all (reverse (chars bs))) false ≡ made = cc in
    let none : reverse (chars bs) ≡ [] = encodes_same (reverse (chars bs)) [] (no_text made _ false made_is empty) in
    sym (encodes-chars bs utf8) ∙ ap encode_utf8_all (none_behind (chars bs) none)

module _ (start end : Option ℤ) (z step : ℤ) (same : z ≡ step) where
  -- the slice of an array and of a text, from the slice of what they hold
  pub array_cut : (v w : Form) (xs ys : List Form) → array (items xs) ≡ v → (z ≢ pos 0 → ys ≡ slice_of xs start end z)
      → w ≡ array (items ys) → step ≢ pos 0 → cut v start end step ≡ Ok w
  array_cut v w xs ys held h found nonzero =
      let part = subst (λ k. k ≢ pos 0 → ys ≡ slice_of xs start end k) same h nonzero in
      ap (λ u. cut u start end step) (sym held)
      ∙ ap (λ (zs : List Form). Ok (array (items (slice_of zs start end step)))) (list_of_items xs)
      ∙ ap (λ (zs : List Form). Ok (array (items zs))) (sym part) ∙ ap (λ (u : Form). Ok u) (sym found)

  -- an empty slice takes no item of an array, and no character of a text
  pub none_cut : (v made : Form) (xs : List Form) → array (items xs) ≡ v → cut v start end step ≡ Ok made
      → truthy_in (meaning made) ≡ false → slice_of xs start end z ≡ []
  none_cut v made xs held cuts empty =
      let is : Ok (array (items (slice_of xs start end step))) ≡ Ok made =
      sym (ap (λ (zs : List Form). Ok (array (items (slice_of zs start end step)))) (list_of_items xs))
      ∙ ap (λ u. cut u start end step) held ∙ cuts
      in
      let made_is : array (items (slice_of xs start end step)) ≡ made = cc in
      ap (slice_of xs start end) same ∙ no_items_held made (slice_of xs start end step) made_is empty

  pub none_cut_of_text : (v made : Form) (bs : List ℕ) (safe : Bool) → marked bs safe ≡ v → cut v start end step ≡ Ok made
      → truthy_in (meaning made) ≡ false → step ≢ pos 0 → IsSliceOf (chars bs) start end z []
  none_cut_of_text v made bs safe held cuts empty nonzero =
      let is : Ok (marked (encode_utf8_all (slice_of (chars bs) start end step)) safe) ≡ Ok made =
      ap (λ u. cut u start end step) held ∙ cuts
      in
      let made_is : marked (encode_utf8_all (slice_of (chars bs) start end step)) safe ≡ made = cc in
      let none : slice_of (chars bs) start end step ≡ [] =
      encodes_same (slice_of (chars bs) start end step) [] (no_text made _ safe made_is empty)
      in
      subst (λ k. IsSliceOf (chars bs) start end k []) (sym same)
      (subst (IsSliceOf (chars bs) start end step) none (slice_of_is (chars bs) start end step nonzero))

  pub text_cut : (v : Form) (bs t : List ℕ) (safe : Bool) → marked bs safe ≡ v
      → (z ≢ pos 0 → (cs : List ℕ) × IsSliceOf (chars bs) start end z cs × (t ≡ encode_utf8_all cs)) → step ≢ pos 0
      → cut v start end step ≡ Ok (marked t safe)
  text_cut v bs t safe held h nonzero =
      let part =
      subst (λ k. k ≢ pos 0 → (cs : List ℕ) × IsSliceOf (chars bs) start end k cs × (t ≡ encode_utf8_all cs)) same h nonzero
      in
      let spelled : t ≡ encode_utf8_all (slice_of (chars bs) start end step) =
      part.2 ∙ ap encode_utf8_all
      (slices_same (chars bs) part.0 (slice_of (chars bs) start end step) _ _ step part.1 (slice_of_is (chars bs) start end step nonzero))
      in
      ap (λ u. cut u start end step) (sym held) ∙ ap (λ (ds : List ℕ). Ok (marked ds safe)) (sym spelled)

  pub not_zero : step ≢ pos 0 → z ≢ pos 0
  not_zero nonzero e = nonzero (sym same ∙ e)

  module _ (given : Option ℤ) (is : step ≡ unwrap_or given (pos 1)) (nonzero : step ≢ pos 0) (v : Form) where
    cut_by_nonzero : (k : ℤ) → k ≢ pos 0 → cut v start end k ≡ cut_by k v start end
    cut_by_nonzero (pos zero) some = absurd (some refl)
    cut_by_nonzero (pos (suc n)) some = refl
    cut_by_nonzero (negsuc n) some = refl

    cut_is_sliced : cut v start end z ≡ sliced v start end given
    cut_is_sliced =
        cut_by_nonzero z (not_zero nonzero) ∙ ap (λ k. cut_by k v start end) (same ∙ is)

    pub slice_is_cut : (o : Result Form Refusal) → IsSliced v start end given o → cut v start end z ≡ o
    slice_is_cut o h = cut_is_sliced ∙ sym (sliced_only v start end given o h)

    pub slice_found : {E : Type 0} (r : Result Form E) → IfOk r (λ w. z ≢ pos 0 → cut v start end z ≡ Ok w)
        → IfOk r (λ w. IsSliced v start end given (Ok w))
    slice_found (Err e) h = h
    slice_found (Ok w) h =
        subst (λ (o : Result Form Refusal). IsSliced v start end given o) (sym cut_is_sliced ∙ h (not_zero nonzero))
        (sliced_is v start end given)

    pub slice_refused : {W : Type 0} (r : Result W Error) → IfErr r (Refuses (cut v start end z))
        → IfErr r (λ e. (outcome : Result Form Refusal) × IsSliced v start end given outcome × Refuses outcome e)
    slice_refused (Ok w) h = h
    slice_refused (Err e) h = (
      sliced v start end given,
      sliced_is v start end given,
      subst (λ (o : Result Form Refusal). Refuses o e) cut_is_sliced h,
    )

pub zero_refused : (v : Form) (start end given : Option ℤ) → unwrap_or given (pos 1) ≡ pos 0
    → IsSliced v start end given (Err step_of_zero)
zero_refused v start end given e = subst (λ k. IsCutBy k v start end (Err step_of_zero)) (sym e) refl

pub zero_gives_none : (v w : Form) (start end given : Option ℤ) → unwrap_or given (pos 1) ≡ pos 0
    → IsSliced v start end given (Ok w) → ⊥
zero_gives_none v w start end given e h = let refused = subst (λ k. IsCutBy k v start end (Ok w)) e h in cc
