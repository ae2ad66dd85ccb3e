-- From the mask of a block's marked bytes to bytes that are plain.
use Rattle.std.proofs.Common.{◌≡◌, ℕ, ◌+◌, ◌%◌, ◌^◌, ◌≤◌, Bool, true, false, ◌||◌, ◌==◌, cond, eqb, ltb, List, length, map, replicate, bit_or, refl, sym, ap}
use Rattle.std.proofs.Common.{◌∙◌, arith}
use Rattle.std.proofs.Math.Bool.{or_assoc}
use Rattle.std.proofs.lemmas.Bool.{eqb-true}
use Rattle.std.proofs.lemmas.Simd.{zip2_splat, zip2_splat_left, zip2_of_maps, map-map, mask_l-mod, length-chunk, none_from_empty_mask}
use Rattle.std.proofs.lemmas.List.{length-map}
use Rattle.std.specs.Bool.{OnTrue}
use Rattle.std.specs.Simd.Lanes.{zip2, mask_l, top, chunk}
use Rattle.tera_report.specs.inner.Quoted.{is_marked, PlainBetween}
use Rattle.tera_report.proofs.LaneLemmas.{ones, hit, either, top_ones}

abbrev below : ℕ → ℕ → ℕ
below a b = cond (ltb a b) 255 0

any_of_four : (p q r s : Bool) → top 7 (bit_or (bit_or (bit_or (ones p) (ones q)) (ones r)) (ones s)) ≡ (p || (q || (r || s)))
any_of_four p q r s = simp (either, top_ones, or_assoc)

any_marked : (x : ℕ) → top 7 (bit_or (bit_or (bit_or (below x 32) (hit x 34)) (hit x 92)) (below 126 x)) ≡ is_marked x
any_marked x = any_of_four (ltb x 32) (eqb x 34) (eqb x 92) (ltb 126 x)

-- the four comparisons of a block of n bytes, joined
abbrev pub compared : ℕ → List ℕ → List ℕ
compared n v =
    zip2 bit_or (zip2 bit_or (zip2 bit_or (zip2 below v (replicate n 32)) (zip2 hit v (replicate n 34))) (zip2 hit v (replicate n 92)))
    (zip2 below (replicate n 126) v)

marks_mask : (v : List ℕ) (n : ℕ) → length v ≡ n → n ≤ 64 → mask_l (map (top 7) (compared n v)) % 2 ^ 64 ≡ mask_l (map is_marked v)
marks_mask v n long few =
    let two = zip2_of_maps bit_or _ _ v (zip2_splat below v n 32 long) (zip2_splat hit v n 34 long) in
    let three = zip2_of_maps bit_or _ _ v two (zip2_splat hit v n 92 long) in
    let four = zip2_of_maps bit_or _ _ v three (zip2_splat_left below 126 n v long) in
    let tops = ap (map (top 7)) four ∙ map-map (top 7) _ v ∙ ap (λ f. map f v) (λ i x. any_marked x i) in
    ap (λ ms. mask_l ms % 2 ^ 64) tops ∙ mask_l-mod (map is_marked v) 64 (omega (arith, length-map v is_marked))

on_true : (b : Bool) (P : Type 0) → (b ≡ true → P) → OnTrue b P
on_true true P f = f refl
on_true false P f = tt

-- the four tests of a block of n bytes, as the code makes them
pub plain_from_lanes : (d : List ℕ) (i n : ℕ) → i + n ≤ length d → n ≤ 64
    → OnTrue (mask_l (map (top 7) (compared n (chunk i n d))) % 2 ^ 64 == 0) (PlainBetween d i (i + n))
plain_from_lanes d i n room few =
    let mask = marks_mask (chunk i n d) n (length-chunk i n d room) few in
    on_true _ _ (λ e. none_from_empty_mask is_marked d i n 0 room (sym mask ∙ eqb-true _ 0 e))
