-- Walks over items in the direction of a step, and the slice that a walk takes.
use Rattle.std.specs.Prelude.{◌≡◌, ◌<◌, ◌≤◌, ◌+◌, ◌*◌, ℕ, zero, suc, ℤ, pos, negsuc, ◌-ℤ◌, nat_abs}
use Rattle.std.specs.Prelude.{List, [], ◌∷◌, reverse, length, take, slice_get, Option, Result, Ok}
use Rattle.std.specs.Prelude.{Err}
use Rattle.std.specs.Option.{unwrap_or}
use Rattle.std.specs.Str.{chars, encode_utf8_all}
use Rattle.tera_report.specs.Refusal.{Refusal, step_of_zero, not_sliceable}
use Rattle.tera_meaning.specs.Form.{Form}
use Rattle.tera_meaning.specs.Kind.{kind_in, kind_name}
use Rattle.tera_meaning.specs.SliceRule.{start_place, end_place}
use Rattle.tera_meaning.specs.Tree.{text, array, items, items_list}

-- the items in the direction of the step
abbrev pub directed : {X : Type 0} → ℤ → List X → List X
directed (pos s) xs = xs
directed (negsuc s) xs = reverse xs

-- the place that is so many items behind the first one in the direction of the step, and how many a
-- place is behind it
abbrev pub place_behind : ℤ → ℕ → ℕ → ℤ
place_behind (pos s) n d = pos d
place_behind (negsuc s) n d = pos n -ℤ pos (suc d)

abbrev pub distance : ℤ → ℕ → ℤ → ℕ
distance (pos s) n place = nat_abs place
distance (negsuc s) n place = nat_abs (pos n -ℤ pos 1 -ℤ place)

-- how many items a walk by a step passes over between two that it takes
abbrev pub pause : ℤ → ℕ
pause (pos zero) = 0
pause (pos (suc s)) = s
pause (negsuc s) = s

-- passes over so many items, takes one, pauses, takes one, and so on
abbrev pub walked : {X : Type 0} → ℕ → ℕ → List X → List X
walked paused waits [] = []
walked paused zero (x ∷ xs) = x ∷ walked paused paused xs
walked paused (suc waits) (x ∷ xs) = walked paused waits xs

-- ys are each by-th of the items, from one of them up to another
pub record IsStrided {X : Type 0} (xs : List X) (from until by : ℕ) (ys : List X) : Type 0 where
  pub reached : until ≤ from + length ys * by
  pub before : (k : ℕ) → k < length ys → from + k * by < until
  pub taken : (k : ℕ) → k < length ys → slice_get ys k ≡ slice_get xs (from + k * by)

-- the slice between two bounds, by a walk
abbrev pub slice_of : {X : Type 0} → List X → Option ℤ → Option ℤ → ℤ → List X
slice_of xs start end step =
    walked (pause step) (distance step (length xs) (start_place step (length xs) start))
    (take (distance step (length xs) (end_place step (length xs) end)) (directed step xs))

abbrev pub cut : Form → Option ℤ → Option ℤ → ℤ → Result Form Refusal
cut (array xs) start end step = Ok (array (items (slice_of (items_list xs) start end step)))
cut (text t) start end step =
    Ok (text (record {
      spelled = encode_utf8_all (slice_of (chars t.spelled) start end step);
      safe =
          t.safe;
    }))
cut v start end step = Err (not_sliceable (kind_name (kind_in v)))

abbrev pub cut_by : ℤ → Form → Option ℤ → Option ℤ → Result Form Refusal
cut_by (pos zero) v start end = Err step_of_zero
cut_by (pos (suc s)) v start end = cut v start end (pos (suc s))
cut_by (negsuc s) v start end = cut v start end (negsuc s)

-- what a slice comes to, computed: the one outcome of `IsSliced`, as the law
-- `slices_have_one_answer` says
abbrev pub sliced : Form → Option ℤ → Option ℤ → Option ℤ → Result Form Refusal
sliced v start end step = cut_by (unwrap_or step (pos 1)) v start end
