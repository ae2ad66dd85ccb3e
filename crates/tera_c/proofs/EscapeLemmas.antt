-- A text that is put escaped into a room: by blocks of 16 bytes, and byte by byte.
use Rattle.std.proofs.Common.{◌≡◌, ◌≢◌, ℕ, ◌+◌, ◌%◌, ◌^◌, ◌<◌, ◌≤◌, Bool, false, ◌||◌, cond, eqb, List, [], ◌++◌, length, map, get_or, take, drop}
use Rattle.std.proofs.Common.{replicate, bit_or, sym, ap, subst, ◌∙◌, arith, length-take-le, take-take, take-add}
use Rattle.std.proofs.Math.Bool.{or_assoc}
use Rattle.std.proofs.lemmas.List.{length-map, flat_map_more, take_more}
use Rattle.std.proofs.lemmas.List.Concat.{flat_map-append}
use Rattle.std.proofs.lemmas.List.Folds.{length-flat_map-take}
use Rattle.std.proofs.lemmas.Simd.{zip2_splat, zip2_of_maps, map-map, mask_l-mod, leading_from_mask_l, trailing_mask_l, length-chunk, get_or-chunk}
use Rattle.std.proofs.lemmas.Simd.{length-put_chunk, take_more_put_chunk, run_in_chunk_le, run_in_chunk_fails}
use Rattle.std.specs.List.{position_or_len}
use Rattle.std.specs.Simd.Lanes.{zip2, mask_l, top, chunk, put_chunk}
use lib.Count.{count_trailing_zeros}
use lib.Seq.{take-append-add}
use Rattle.tera_report.specs.Escaping.{escaped, spelling, token_of, is_special}
use Rattle.tera_report.proofs.EscapeLaws.{escaped_plain}
use Rattle.tera_c.specs.inner.Escaping.{IsEscapedTo, IsPut}
use Rattle.tera_c.proofs.MeasureLemmas.{hit, either, top_ones}

abbrev spelled : ℕ → List ℕ
spelled byte = spelling (token_of byte)

-- ---- how many ordinary bytes a block begins with

five : (p q r s t : Bool)
    → top 7 (bit_or (bit_or (bit_or (bit_or (cond p 255 0) (cond q 255 0)) (cond r 255 0)) (cond s 255 0)) (cond t 255 0)) ≡ (p || (q || (r || (s || t))))
five p q r s t = simp (either, top_ones, or_assoc)

special_at : (x : ℕ) → top 7 (bit_or (bit_or (bit_or (bit_or (hit x 38) (hit x 60)) (hit x 62)) (hit x 34)) (hit x 39)) ≡ is_special x
special_at x = five (eqb x 38) (eqb x 60) (eqb x 62) (eqb x 34) (eqb x 39)

-- the five comparisons of a block, joined
abbrev compared : List ℕ → List ℕ
compared v =
    zip2 bit_or (zip2 bit_or (zip2 bit_or (zip2 bit_or (zip2 hit v (replicate 16 38)) (zip2 hit v (replicate 16 60))) (zip2 hit v (replicate 16 62)))
    (zip2 hit v (replicate 16 34))) (zip2 hit v (replicate 16 39))

specials_of : (v : List ℕ) → length v ≡ 16 → mask_l (map (top 7) (compared v)) % 2 ^ 64 ≡ mask_l (map is_special v)
specials_of v long =
    let one = λ (y : ℕ). zip2_splat hit v 16 y long in
    let two = zip2_of_maps bit_or _ _ v (one 38) (one 60) in
    let three = zip2_of_maps bit_or _ _ v two (one 62) in
    let four = zip2_of_maps bit_or _ _ v three (one 34) in
    let all = zip2_of_maps bit_or _ _ v four (one 39) in
    let tops = ap (map (top 7)) all ∙ map-map (top 7) _ v ∙ ap (λ f. map f v) (λ i x. special_at x i) in
    ap (λ ms. mask_l ms % 2 ^ 64) tops ∙ mask_l-mod (map is_special v) 64 (omega (arith, length-map v is_special))

pub all_ordinary : (v : List ℕ) → length v ≡ 16 → mask_l (map (top 7) (compared v)) % 2 ^ 64 ≡ 0 → 16 ≡ position_or_len is_special v
all_ordinary v long none = sym (leading_from_mask_l is_special v (sym (specials_of v long) ∙ none) ∙ long)

pub ordinary_before : (v : List ℕ) → length v ≡ 16 → mask_l (map (top 7) (compared v)) % 2 ^ 64 ≢ 0
    → count_trailing_zeros 64 (mask_l (map (top 7) (compared v)) % 2 ^ 64) ≡ position_or_len is_special v
ordinary_before v long some =
    ap (count_trailing_zeros 64) (specials_of v long) ∙ trailing_mask_l is_special 64 v (omega arith) (omega (arith, specials_of v long, some))

-- ---- a block is stored whole, and its ordinary beginning counts

-- what a block begins with is escaped as it is
ordinary_run : (text : List ℕ) (at run : ℕ) → at + 16 ≤ length text → run ≡ position_or_len is_special (chunk at 16 text)
    → escaped (chunk at run text) ≡ take run (chunk at 16 text)
ordinary_run text at run there counted =
    let short : run ≤ 16 = run_in_chunk_le is_special text at 16 run 0 there counted in
    let plain = λ (k : ℕ) (h : k < length (chunk at run text)). (
    let below : k < run = omega (arith, h, length-chunk at run text (omega (arith, there, short))) in
    subst (λ b. is_special b ≡ false) (sym (get_or-chunk at run text k 0 below))
    (run_in_chunk_fails is_special text at 16 run 0 there counted (at + k) (omega arith) (omega (arith, below)))) in
    escaped_plain (chunk at run text) plain ∙ sym (take-take run 16 (drop at text) short)

pub run_put : (text room : List ℕ) (at filled run : ℕ) → at + 16 ≤ length text → filled + 16 ≤ length room
    → run ≡ position_or_len is_special (chunk at 16 text) → IsEscapedTo text at room filled
    → IsEscapedTo text (at + run) (put_chunk filled room (chunk at 16 text)) (filled + run)
run_put text room at filled run there fits counted before =
    let block = chunk at 16 text in
    let new = put_chunk filled room block in
    let short : run ≤ 16 = run_in_chunk_le is_special text at 16 run 0 there counted in
    let stored = take_more_put_chunk filled room block (filled + 16) (omega (arith, length-chunk at 16 text there)) fits in
    let long : length (take filled room) ≡ filled = length-take-le filled room before.within in
    let cut : take (filled + run) new ≡ take filled room ++ take run block =
    sym (take-take (filled + run) (filled + 16) new (omega (arith, short))) ∙ ap (take (filled + run)) stored
    ∙ ap (λ j. take (j + run) (take filled room ++ block)) (sym long) ∙ take-append-add (take filled room) block run in
    let parts = ap escaped (take-add at run text) ∙ flat_map-append spelled (take at text) (chunk at run text) in
    record {
      read = omega (arith, there, short);
      within = omega (arith, length-put_chunk filled room block, fits, short);
      front = cut ∙ (λ i. before.front i ++ sym (ordinary_run text at run there counted) i) ∙ sym parts;
    }

-- ---- byte by byte

pub byte_put : (text old new : List ℕ) (at filled end : ℕ) → at < length text → IsEscapedTo text at old filled
    → IsPut (spelled (get_or text at 0)) old filled new end → IsEscapedTo text (at + 1) new end
byte_put text old new at filled end there before put =
    let more = flat_map_more spelled [] (take at text) (get_or text at 0) in
    record {
      read = omega (arith, there);
      within = put.within;
      front = put.front ∙ ap (λ l. l ++ spelled (get_or text at 0)) before.front ∙ more ∙ ap escaped (sym (take_more text at 0 there));
    }

filled_is : (text room : List ℕ) (at filled : ℕ) → IsEscapedTo text at room filled → filled ≡ length (escaped (take at text))
filled_is text room at filled before = sym (length-take-le filled room before.within) ∙ ap length before.front

-- in a room of the text's length each byte fits
pub byte_fits : (text room : List ℕ) (at filled : ℕ) → at < length text → IsEscapedTo text at room filled → length room ≡ length (escaped text)
    → filled + length (spelled (get_or text at 0)) ≤ length room
byte_fits text room at filled there before long =
    omega (arith, length-flat_map-take spelled text at 0 there, filled_is text room at filled before, long)
