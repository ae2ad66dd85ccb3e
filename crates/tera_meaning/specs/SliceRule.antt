-- Slices and reversal: which items and characters they take, and what is refused.
use Rattle.std.specs.Prelude.{◌≡◌, ◌<◌, ℕ, zero, suc, ℤ, pos, negsuc, ◌+ℤ◌, ◌-ℤ◌, ◌*ℤ◌, ◌<ℤ◌, ◌≤ℤ◌}
use Rattle.std.specs.Prelude.{false, List, reverse, length, slice_get, Option, None, Some, Result}
use Rattle.std.specs.Prelude.{Ok, Err}
use Rattle.std.specs.Int.{int_min, int_max}
use Rattle.std.specs.Option.{unwrap_or}
use Rattle.std.specs.Str.{chars, encode_utf8_all}
use Rattle.tera_report.specs.Refusal.{Refusal, step_of_zero, not_sliceable, not_reversible}
use Rattle.tera_meaning.specs.Form.{Form}
use Rattle.tera_meaning.specs.Kind.{kind_in, kind_name}
use Rattle.tera_meaning.specs.Lookup.{seen_by}
use Rattle.tera_meaning.specs.Meaning.{Meaning, meaning}
use Rattle.tera_meaning.specs.Tree.{text, bytes, array, items, items_list}

-- the least and the greatest place of a bound in n items. A step below 0 may end before the first
-- of them, and does not start behind the last
abbrev pub least_place : ℤ → ℤ
least_place (pos s) = pos 0
least_place (negsuc s) = negsuc 0

abbrev pub greatest_place : ℤ → ℕ → ℤ
greatest_place (pos s) n = pos n
greatest_place (negsuc s) n = pos n -ℤ pos 1

-- a bound below 0 counts from the end
abbrev pub counted : ℕ → ℤ → ℤ
counted n (pos bound) = pos bound
counted n (negsuc bound) = pos n +ℤ negsuc bound

-- the place of a bound: the nearest one between the least and the greatest
abbrev pub place_of_bound : ℤ → ℕ → ℤ → ℤ
place_of_bound step n bound =
    int_max (least_place step) (int_min (counted n bound) (greatest_place step n))

-- where the items begin and end in the direction of the step
abbrev pub first_place : ℤ → ℕ → ℤ
first_place (pos s) n = least_place (pos s)
first_place (negsuc s) n = greatest_place (negsuc s) n

abbrev pub last_place : ℤ → ℕ → ℤ
last_place (pos s) n = greatest_place (pos s) n
last_place (negsuc s) n = least_place (negsuc s)

-- where a slice starts and ends
abbrev pub start_place : ℤ → ℕ → Option ℤ → ℤ
start_place step n None = first_place step n
start_place step n (Some bound) = place_of_bound step n bound

abbrev pub end_place : ℤ → ℕ → Option ℤ → ℤ
end_place step n None = last_place step n
end_place step n (Some bound) = place_of_bound step n bound

-- a place stands strictly before the end in the direction of the step, or it has reached the end
abbrev pub IsBefore : ℤ → ℤ → ℤ → Type 0
IsBefore (pos s) place end = place <ℤ end
IsBefore (negsuc s) place end = end <ℤ place

abbrev pub HasReached : ℤ → ℤ → ℤ → Type 0
HasReached (pos s) place end = end ≤ℤ place
HasReached (negsuc s) place end = place ≤ℤ end

-- the place of a slice's item k
abbrev pub place_at : ℤ → ℤ → ℕ → ℤ
place_at start step k = start +ℤ (pos k *ℤ step)

-- the item at a place, if there is one
abbrev pub item_at : {X : Type 0} → List X → ℤ → Option X
item_at xs (pos i) = slice_get xs i
item_at xs (negsuc i) = None

-- a slice from a place to a place has the least count of items that reaches the end, and its item k
-- is the one at start + k * step
pub record IsSliceFrom {X : Type 0} (xs : List X) (start end step : ℤ) (ys : List X) : Type 0 where
  pub reached : HasReached step (place_at start step (length ys)) end
  pub before : (k : ℕ) → k < length ys → IsBefore step (place_at start step k) end
  pub taken : (k : ℕ) → k < length ys → slice_get ys k ≡ item_at xs (place_at start step k)

-- the slice between two bounds, each of which may be absent
abbrev pub IsSliceOf : {X : Type 0} → List X → Option ℤ → Option ℤ → ℤ → List X → Type 0
IsSliceOf xs start end step ys =
    IsSliceFrom xs (start_place step (length xs) start) (end_place step (length xs) end) step ys

-- the slice of a value: of an array its items, which keep their forms, of a text its characters,
-- and it keeps its flag
abbrev pub IsCut : Form → Option ℤ → Option ℤ → ℤ → Result Form Refusal → Type 0
IsCut (array xs) start end step outcome =
    (ys : List Form) × IsSliceOf (items_list xs) start end step ys
    × (outcome ≡ Ok (array (items ys)))
IsCut (text t) start end step outcome =
    (cs : List ℕ) × IsSliceOf (chars t.spelled) start end step cs
    × (outcome ≡ Ok (text (record { spelled = encode_utf8_all cs; safe = t.safe })))
IsCut v start end step outcome = outcome ≡ Err (not_sliceable (kind_name (kind_in v)))

-- a step of 0 is refused whatever the value
abbrev pub IsCutBy : ℤ → Form → Option ℤ → Option ℤ → Result Form Refusal → Type 0
IsCutBy (pos zero) v start end outcome = outcome ≡ Err step_of_zero
IsCutBy (pos (suc s)) v start end outcome = IsCut v start end (pos (suc s)) outcome
IsCutBy (negsuc s) v start end outcome = IsCut v start end (negsuc s) outcome

-- what a slice comes to: a value, or a refusal. A step that is absent is 1
abbrev pub IsSliced : Form → Option ℤ → Option ℤ → Option ℤ → Result Form Refusal → Type 0
IsSliced v start end step outcome = IsCutBy (unwrap_or step (pos 1)) v start end outcome

-- what reversal comes to: items, which keep their forms, characters or bytes in the opposite order.
-- A reversed text is not safe
abbrev pub reversed : Form → Result Form Refusal
reversed (array xs) = Ok (array (items (reverse (items_list xs))))
reversed (text t) =
    Ok (text (record { spelled = encode_utf8_all (reverse (chars t.spelled)); safe = false }))
reversed (bytes bs) = Ok (bytes (reverse bs))
reversed v = Err (not_reversible (kind_name (kind_in v)))

-- a value that is found by its meaning, and a refusal without the name of a value's kind
abbrev pub shape_of : Result Form Refusal → Result Meaning Refusal
shape_of outcome = seen_by meaning outcome
