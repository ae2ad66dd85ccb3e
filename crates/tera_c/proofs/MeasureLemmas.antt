-- How long an escaped text is: what stands for each byte, added.
use Rattle.std.proofs.Common.{◌≡◌, ℕ, ◌+◌, ◌*◌, ◌%◌, ◌^◌, ◌≤◌, Bool, true, false, ◌||◌, cond, eqb, List, [], ◌∷◌, length, map, take, replicate, bit_or}
use Rattle.std.proofs.Common.{count_ones, count_by, if◌then◌else◌, refl, sym, ap, subst, ◌∙◌, arith, length-append}
use Rattle.std.proofs.lemmas.Bool.{eqb-true}
use Rattle.std.proofs.lemmas.List.Concat.{flat_map-append}
use Rattle.std.proofs.lemmas.List.{length-map, length-take}
use Rattle.std.proofs.Math.Seq.{take-add}
use Rattle.std.proofs.lemmas.List.Sums.{sum_by-cons}
use Rattle.std.proofs.lemmas.Simd.{zip2_splat, zip2_of_maps, map-map, mask_l-mod, ones-mask_l}
use Rattle.std.specs.Simd.Lanes.{zip2, mask_l, top, chunk}
use Rattle.tera_report.specs.Escaping.{escaped, spelling, token_of, Token}

-- a byte by whether it is each of the special ones, in the order of `token_of`
abbrev token_by : Bool → Bool → Bool → Bool → Bool → ℕ → Token
token_by a l g q s x =
    if a then Token.ampersand
    else (if l then Token.less_than
    else (if g then Token.greater_than
    else (if q then Token.double_quote
    else (if s then Token.single_quote
    else Token.itself x))))

abbrev one_if : Bool → ℕ
one_if b = cond b 1 0

-- so much stands for it
abbrev Adds : Bool → Bool → Bool → Bool → Bool → ℕ → Type 0
Adds a l g q s x =
    length (spelling (token_by a l g q s x)) ≡ 1 + (3 * one_if (l || g) + (4 * one_if (a || s) + 5 * one_if q))

abbrev AddsAt : ℕ → Type 0
AddsAt x = Adds (eqb x 38) (eqb x 60) (eqb x 62) (eqb x 34) (eqb x 39) x

by_bool : (b : Bool) (P : Type 0) → (b ≡ true → P) → (b ≡ false → P) → P
by_bool true P so other = so refl
by_bool false P so other = other refl

at : (x y : ℕ) → eqb x y ≡ true → AddsAt y → AddsAt x
at x y same adds = subst AddsAt (sym (eqb-true x y same)) adds

plain : (x : ℕ) (a l g q s : Bool) → a ≡ false → l ≡ false → g ≡ false → q ≡ false → s ≡ false → Adds a l g q s x
plain x false false false false false pa pl pg pq ps = refl
plain x true l g q s pa pl pg pq ps = absurd (cc)
plain x false true g q s pa pl pg pq ps = absurd (cc)
plain x false false true q s pa pl pg pq ps = absurd (cc)
plain x false false false true s pa pl pg pq ps = absurd (cc)
plain x false false false false true pa pl pg pq ps = absurd (cc)

adds_at : (x : ℕ) → AddsAt x
adds_at x =
    by_bool (eqb x 38) _ (λ h. at x 38 h refl) (λ a.
    by_bool (eqb x 60) _ (λ h. at x 60 h refl) (λ l.
    by_bool (eqb x 62) _ (λ h. at x 62 h refl) (λ g.
    by_bool (eqb x 34) _ (λ h. at x 34 h refl) (λ q.
    by_bool (eqb x 39) _ (λ h. at x 39 h refl) (λ s. plain x _ _ _ _ _ a l g q s)))))

six_by : (x : ℕ) (a l g q s : Bool) → length (spelling (token_by a l g q s x)) ≤ 6
six_by x true l g q s = omega arith
six_by x false true g q s = omega arith
six_by x false false true q s = omega arith
six_by x false false false true s = omega arith
six_by x false false false false true = omega arith
six_by x false false false false false = omega arith

pub at_most_six : (x : ℕ) → length (spelling (token_of x)) ≤ 6
at_most_six x = six_by x (eqb x 38) (eqb x 60) (eqb x 62) (eqb x 34) (eqb x 39)

pub six_times : (xs : List ℕ) → length (escaped xs) ≤ 6 * length xs
six_times [] = omega arith
six_times (x ∷ xs) =
    omega (arith, length-append (spelling (token_of x)) (escaped xs), at_most_six x, six_times xs)

-- the bytes that take three more, four more and five more than one
abbrev threes : ℕ → Bool
threes x = eqb x 60 || eqb x 62

abbrev fours : ℕ → Bool
fours x = eqb x 38 || eqb x 39

abbrev fives : ℕ → Bool
fives x = eqb x 34

added : (xs : List ℕ) → length (escaped xs) ≡ length xs + (3 * count_by threes xs + (4 * count_by fours xs + 5 * count_by fives xs))
added [] = refl
added (x ∷ xs) =
    let long : length (escaped (x ∷ xs)) ≡ length (spelling (token_of x)) + length (escaped xs) = length-append (spelling (token_of x)) (escaped xs) in
    let three : count_by threes (x ∷ xs) ≡ one_if (threes x) + count_by threes xs = sum_by-cons (λ y. one_if (threes y)) x xs in
    let four : count_by fours (x ∷ xs) ≡ one_if (fours x) + count_by fours xs = sum_by-cons (λ y. one_if (fours y)) x xs in
    let five : count_by fives (x ∷ xs) ≡ one_if (fives x) + count_by fives xs = sum_by-cons (λ y. one_if (fives y)) x xs in
    let more : length (x ∷ xs) ≡ 1 + length xs = omega arith in
    omega (arith, long, three, four, five, more, adds_at x, added xs)

-- ---- a block of 32 bytes

abbrev pub hit : ℕ → ℕ → ℕ
hit a b = cond (eqb a b) 255 0

pub either : (p q : Bool) → bit_or (cond p 255 0) (cond q 255 0) ≡ cond (p || q) 255 0
either true true = refl
either true false = refl
either false true = refl
either false false = refl

pub top_ones : (b : Bool) → top 7 (cond b 255 0) ≡ b
top_ones true = refl
top_ones false = refl

counted : (p : ℕ → Bool) (v : List ℕ) → length v ≡ 32 → count_ones (mask_l (map p v) % 2 ^ 64) ≡ count_by p v
counted p v long = ap count_ones (mask_l-mod (map p v) 64 (omega (arith, length-map v p))) ∙ ones-mask_l p v

-- how many bytes of a block are this one
marked : (v : List ℕ) (y : ℕ) → length v ≡ 32
    → count_ones (mask_l (map (top 7) (zip2 hit v (replicate 32 y))) % 2 ^ 64) ≡ count_by (λ x. eqb x y) v
marked v y long =
    let tops = ap (map (top 7)) (zip2_splat hit v 32 y long) ∙ map-map (top 7) _ v ∙ ap (λ f. map f v) (λ i x. top_ones (eqb x y) i) in
    ap (λ ms. count_ones (mask_l ms % 2 ^ 64)) tops ∙ counted (λ x. eqb x y) v long

-- how many are one of these two
either_marked : (v : List ℕ) (y z : ℕ) → length v ≡ 32
    → count_ones (mask_l (map (top 7) (zip2 bit_or (zip2 hit v (replicate 32 y)) (zip2 hit v (replicate 32 z)))) % 2 ^ 64)
    ≡ count_by (λ x. eqb x y || eqb x z) v
either_marked v y z long =
    let two = zip2_of_maps bit_or _ _ v (zip2_splat hit v 32 y long) (zip2_splat hit v 32 z long) in
    let each = λ (x : ℕ). ap (top 7) (either (eqb x y) (eqb x z)) ∙ top_ones (eqb x y || eqb x z) in
    let tops = ap (map (top 7)) two ∙ map-map (top 7) _ v ∙ ap (λ f. map f v) (λ i x. each x i) in
    ap (λ ms. count_ones (mask_l ms % 2 ^ 64)) tops ∙ counted (λ x. eqb x y || eqb x z) v long

total : (v : List ℕ) (a b c : ℕ) → length v ≡ 32 → a ≡ count_by threes v → b ≡ count_by fours v → c ≡ count_by fives v
    → 32 + 3 * a + 4 * b + 5 * c ≡ length (escaped v)
total v a b c long p q r = omega (arith, added v, long, p, q, r)

pub block_adds : (v : List ℕ) → length v ≡ 32
    → 32 + 3 * count_ones (mask_l (map (top 7) (zip2 bit_or (zip2 hit v (replicate 32 60)) (zip2 hit v (replicate 32 62)))) % 2 ^ 64)
    + 4 * count_ones (mask_l (map (top 7) (zip2 bit_or (zip2 hit v (replicate 32 38)) (zip2 hit v (replicate 32 39)))) % 2 ^ 64)
    + 5 * count_ones (mask_l (map (top 7) (zip2 hit v (replicate 32 34))) % 2 ^ 64) ≡ length (escaped v)
block_adds v long = total v _ _ _ long (either_marked v 60 62 long) (either_marked v 38 39 long) (marked v 34 long)

-- ---- a text by its blocks

pub so_far : (xs : List ℕ) (at k len more : ℕ) → len ≡ length (escaped (take at xs)) → more ≡ length (escaped (chunk at k xs))
    → len + more ≡ length (escaped (take (at + k) xs))
so_far xs at k len more before here =
    let parts = ap escaped (take-add at k xs) ∙ flat_map-append (λ x. spelling (token_of x)) (take at xs) (chunk at k xs) in
    omega (arith, before, here, ap length parts, length-append (escaped (take at xs)) (escaped (chunk at k xs)))

pub few_so_far : (xs : List ℕ) (at n : ℕ) → n ≡ length (escaped (take at xs)) → n ≤ 6 * length xs
few_so_far xs at n is = omega (arith, is, six_times (take at xs), length-take at xs)
