-- From the mask of a block's special bytes to how many ordinary bytes it begins with.
use Rattle.std.proofs.Common.{◌≡◌, ◌≢◌, ℕ, ◌+◌, ◌%◌, ◌^◌, ◌≤◌, Bool, true, false, ◌||◌, cond, eqb, List, length, map, replicate, bit_or, refl, sym, ap, ◌∙◌}
use Rattle.std.proofs.Common.{arith, ⊎_elim}
use Rattle.std.proofs.Math.Bool.{or_assoc}
use Rattle.std.proofs.lemmas.Simd.{zip2_splat, zip2_of_maps, map-map, mask_l-mod, leading_from_mask_l, trailing_mask_l, run_in_chunk_fails}
use Rattle.std.proofs.lemmas.List.{length-map}
use Rattle.std.proofs.lemmas.Bool.{cases_lt}
use Rattle.std.specs.List.{position_or_len}
use Rattle.std.specs.Simd.Lanes.{zip2, mask_l, top, chunk}
use lib.Count.{count_trailing_zeros}
use Rattle.tera_report.specs.Escaping.{is_special}
use Rattle.tera_report.specs.inner.Pieces.{IsPlain}

-- all ones where the test passes
abbrev pub ones : Bool → ℕ
ones b = cond b 255 0

abbrev pub hit : ℕ → ℕ → ℕ
hit a b = cond (eqb a b) 255 0

pub either : (p q : Bool) → bit_or (ones p) (ones q) ≡ ones (p || q)
either true true = refl
either true false = refl
either false true = refl
either false false = refl

pub top_ones : (b : Bool) → top 7 (ones b) ≡ b
top_ones true = refl
top_ones false = refl

any_of_five : (p q r s t : Bool) → top 7 (bit_or (bit_or (bit_or (bit_or (ones p) (ones q)) (ones r)) (ones s)) (ones t)) ≡ (p || (q || (r || (s || t))))
any_of_five p q r s t = simp (either, top_ones, or_assoc)

any_special : (x : ℕ) → top 7 (bit_or (bit_or (bit_or (bit_or (hit x 38) (hit x 60)) (hit x 62)) (hit x 34)) (hit x 39)) ≡ is_special x
any_special x = any_of_five (eqb x 38) (eqb x 60) (eqb x 62) (eqb x 34) (eqb x 39)

-- the five comparisons of a block, joined
abbrev pub compared : List ℕ → List ℕ
compared v =
    zip2 bit_or (zip2 bit_or (zip2 bit_or (zip2 bit_or (zip2 hit v (replicate 32 38)) (zip2 hit v (replicate 32 60))) (zip2 hit v (replicate 32 62)))
    (zip2 hit v (replicate 32 34))) (zip2 hit v (replicate 32 39))

pub specials_mask : (v : List ℕ) → length v ≡ 32 → mask_l (map (top 7) (compared v)) % 2 ^ 64 ≡ mask_l (map is_special v)
specials_mask v long =
    let one = λ (y : ℕ). zip2_splat hit v 32 y long in
    let two = zip2_of_maps bit_or _ _ v (one 38) (one 60) in
    let three = zip2_of_maps bit_or _ _ v two (one 62) in
    let four = zip2_of_maps bit_or _ _ v three (one 34) in
    let five = zip2_of_maps bit_or _ _ v four (one 39) in
    let tops = ap (map (top 7)) five ∙ map-map (top 7) _ v ∙ ap (λ f. map f v) (λ i x. any_special x i) in
    ap (λ ms. mask_l ms % 2 ^ 64) tops ∙ mask_l-mod (map is_special v) 64 (omega (arith, length-map v is_special))

pub ordinary_throughout : (v : List ℕ) (m : ℕ) → length v ≡ 32 → m ≡ mask_l (map is_special v) → m ≡ 0 → 32 ≡ position_or_len is_special v
ordinary_throughout v m long mask none = sym (leading_from_mask_l is_special v (sym mask ∙ none) ∙ long)

pub ordinary_up_to : (v : List ℕ) (m : ℕ) → length v ≡ 32 → m ≡ mask_l (map is_special v) → m ≢ 0 → count_trailing_zeros 64 m ≡ position_or_len is_special v
ordinary_up_to v m long mask some =
    ap (count_trailing_zeros 64) mask ∙ trailing_mask_l is_special 64 v (omega arith) (omega (arith, mask))

-- bytes that are ordinary up to a block and in the block's first run
pub plain_more : (bytes : List ℕ) (at run : ℕ) → at + 32 ≤ length bytes → run ≡ position_or_len is_special (chunk at 32 bytes) → IsPlain bytes 0 at
    → IsPlain bytes 0 (at + run)
plain_more bytes at run room counted before k low high =
    ⊎_elim (λ earlier. before k low earlier) (λ later. run_in_chunk_fails is_special bytes at 32 run 0 room counted k later high) (cases_lt k at)
