-- From the mask of a block's marked bytes to how many plain bytes it begins with.
use Rattle.std.proofs.Common.{◌≡◌, ◌≢◌, ◌<◌, ◌≤◌, ℕ, ◌+◌, ◌%◌, ◌^◌, Bool, true, false, ◌||◌, cond, eqb, ltb, List, length, map, replicate}
use Rattle.std.proofs.Common.{bit_or, refl, sym, ap}
use Rattle.std.proofs.Common.{◌∙◌, ◌-◌, arith, inl, inr, subst}
use Rattle.std.proofs.Math.Bool.{or_assoc}
use Rattle.std.proofs.lemmas.Bool.{cases_lt}
use Rattle.std.proofs.lemmas.List.{length-map}
use Rattle.std.proofs.lemmas.Simd.{zip2_splat, zip2_splat_left, zip2_of_maps, map-map, mask_l-mod, length-chunk, leading_from_mask_l, trailing_mask_l}
use Rattle.std.proofs.lemmas.Simd.{run_in_chunk_fails, run_in_chunk_le, run_in_chunk_stops}
use Rattle.std.specs.List.{position_or_len}
use Rattle.std.specs.Simd.Lanes.{zip2, mask_l, top, chunk}
use lib.Count.{count_trailing_zeros}
use Rattle.tera_script.specs.inner.Marked.{is_marked, IsPlainLen, IsPlainUpTo}

-- ---- the five tests of a block of n bytes, joined

abbrev ones : Bool → ℕ
ones b = cond b 255 0

abbrev hit : ℕ → ℕ → ℕ
hit a b = ones (eqb a b)

abbrev less : ℕ → ℕ → ℕ
less a b = ones (ltb a b)

either : (p q : Bool) → bit_or (ones p) (ones q) ≡ ones (p || q)
either true true = refl
either true false = refl
either false true = refl
either false false = refl

top_ones : (b : Bool) → top 7 (ones b) ≡ b
top_ones true = refl
top_ones false = refl

any_of_five : (p q r s t : Bool) → top 7 (bit_or (bit_or (bit_or (bit_or (ones p) (ones q)) (ones r)) (ones s)) (ones t)) ≡ (p || (q || (r || (s || t))))
any_of_five p q r s t = simp (either, top_ones, or_assoc)

any_marked : (most x : ℕ)
    → top 7 (bit_or (bit_or (bit_or (bit_or (less x 32) (hit x 34)) (hit x 92)) (hit x 127)) (less most x)) ≡ is_marked most x
any_marked most x = any_of_five (ltb x 32) (eqb x 34) (eqb x 92) (eqb x 127) (ltb most x)

abbrev pub compared : ℕ → ℕ → List ℕ → List ℕ
compared most n v =
    zip2 bit_or (zip2 bit_or (zip2 bit_or (zip2 bit_or (zip2 less v (replicate n 32)) (zip2 hit v (replicate n 34))) (zip2 hit v (replicate n 92)))
    (zip2 hit v (replicate n 127))) (zip2 less (replicate n most) v)

abbrev pub marks : ℕ → ℕ → List ℕ → ℕ
marks most n v = mask_l (map (top 7) (compared most n v)) % 2 ^ 64

marks_mask : (most : ℕ) (v : List ℕ) (n : ℕ) → length v ≡ n → n ≤ 64 → marks most n v ≡ mask_l (map (is_marked most) v)
marks_mask most v n long few =
    let two = zip2_of_maps bit_or _ _ v (zip2_splat less v n 32 long) (zip2_splat hit v n 34 long) in
    let three = zip2_of_maps bit_or _ _ v two (zip2_splat hit v n 92 long) in
    let four = zip2_of_maps bit_or _ _ v three (zip2_splat hit v n 127 long) in
    let five = zip2_of_maps bit_or _ _ v four (zip2_splat_left less most n v long) in
    let tops = ap (map (top 7)) five ∙ map-map (top 7) _ v ∙ ap (λ f. map f v) (λ i x. any_marked most x i) in
    ap (λ ms. mask_l ms % 2 ^ 64) tops ∙ mask_l-mod (map (is_marked most) v) 64 (omega (arith, length-map v (is_marked most)))

pub all_plain : (most : ℕ) (d : List ℕ) (i n : ℕ) → i + n ≤ length d → n ≤ 64 → marks most n (chunk i n d) ≡ 0
    → n ≡ position_or_len (is_marked most) (chunk i n d)
all_plain most d i n room few none =
    let long = length-chunk i n d room in
    sym (leading_from_mask_l (is_marked most) (chunk i n d) (sym (marks_mask most (chunk i n d) n long few) ∙ none) ∙ long)

pub plain_before : (most : ℕ) (d : List ℕ) (i n : ℕ) → i + n ≤ length d → n ≤ 64 → marks most n (chunk i n d) ≢ 0
    → count_trailing_zeros 64 (marks most n (chunk i n d)) ≡ position_or_len (is_marked most) (chunk i n d)
plain_before most d i n room few some =
    let long = length-chunk i n d room in
    let mask = marks_mask most (chunk i n d) n long few in
    ap (count_trailing_zeros 64) mask ∙ trailing_mask_l (is_marked most) 64 (chunk i n d) (omega (arith, long)) (omega (arith, mask, some))

pub plain_within : (most : ℕ) (d : List ℕ) (i n : ℕ) → i + n ≤ length d → n ≤ 64 → marks most n (chunk i n d) ≢ 0
    → count_trailing_zeros 64 (marks most n (chunk i n d)) ≤ n
plain_within most d i n room few some = run_in_chunk_le (is_marked most) d i n _ 0 room (plain_before most d i n room few some)

-- ---- looks at one block after another

module _ (most : ℕ) (d : List ℕ) (at n run : ℕ) (room : at + n ≤ length d) (counted : run ≡ position_or_len (is_marked most) (chunk at n d)) where
  -- behind plain bytes up to the block, or further
  plain_in : (far : ℕ) → at ≤ far → IsPlainUpTo most d far → IsPlainUpTo most d (at + run)
  plain_in far from before k high = elim (cases_lt k at) [
    | inl earlier ↦ before k (omega (arith, earlier, from))
    | inr later ↦ run_in_chunk_fails (is_marked most) d at n run 0 room counted k later high
  ]

  pub plain_on : n ≤ run → IsPlainUpTo most d at → IsPlainUpTo most d (at + n)
  plain_on whole before k high = plain_in at (omega arith) before k (omega (arith, whole, high))

  pub stops_here : (far : ℕ) → at ≤ far → IsPlainUpTo most d far → run < n → IsPlainLen most d (at + run)
  stops_here far from before short = record {
    within = omega (arith, room, short);
    plain = plain_in far from before;
    stops = λ _. run_in_chunk_stops (is_marked most) d at n run 0 room counted short;
  }

  -- the block ends the bytes
  pub last_look : (far : ℕ) → at + n ≡ length d → at ≤ far → IsPlainUpTo most d far → IsPlainLen most d (at + run)
  last_look far ends from before = record {
    within = omega (arith, ends, run_in_chunk_le (is_marked most) d at n run 0 room counted);
    plain = plain_in far from before;
    stops = λ more. run_in_chunk_stops (is_marked most) d at n run 0 room counted (omega (arith, more, ends));
  }

pub nothing_before : (most : ℕ) (d : List ℕ) → IsPlainUpTo most d 0
nothing_before most d k none = absurd (omega (arith, none))

-- the first look at some bytes, which found a marked one
pub look_first : (most : ℕ) (d : List ℕ) (n run : ℕ) → n ≤ length d → run ≡ position_or_len (is_marked most) (chunk 0 n d) → run < n → IsPlainLen most d run
look_first most d n run room counted short =
    let is : 0 + run ≡ run = omega arith in
    subst (IsPlainLen most d) is (stops_here most d 0 n run (omega (arith, room)) counted 0 (omega arith) (nothing_before most d) short)

-- the last look at them, where the first one found none and is as long
pub look_last : (most : ℕ) (d : List ℕ) (n first run : ℕ) → n ≤ length d → length d ≤ n + n → first ≡ position_or_len (is_marked most) (chunk 0 n d) → n ≤ first
    → run ≡ position_or_len (is_marked most) (chunk (length d - n) n d) → IsPlainLen most d (length d - n + run)
look_last most d n first run room few counted whole last =
    let front = plain_on most d 0 n first (omega (arith, room)) counted whole (nothing_before most d) in
    last_look most d (length d - n) n run (omega (arith, room)) last (0 + n) (omega (arith, room)) (omega (arith, few)) front
