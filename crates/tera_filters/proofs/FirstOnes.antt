-- The items of which no earlier one means the same, one after another.
use Rattle.std.specs.Prelude.{◌≡◌, ◌<◌, ◌≤◌, ◌+◌, ◌++◌, ◌||◌, not, ℕ, Bool, true, false, cond, List, [], ◌∷◌, length, take, Some, is_some, refl}
use Rattle.std.specs.BTreeMap.{is_at}
use Rattle.std.specs.List.{filter, find, list_any}
use Rattle.std.specs.Ordering.{eq_by_cmp, on}
use Rattle.std.proofs.Common.{ap, sym, ◌∙◌, get_or}
use Rattle.std.proofs.lemmas.Grind.{take_at_read}
use Rattle.std.proofs.lemmas.List.{append-nil, take_all}
use Rattle.std.proofs.lemmas.List.Elements.{filter-append}
use Rattle.tera.proofs.OrderLaws.{same_equivalence}
use Rattle.tera.specs.Form.{Form}
use Rattle.tera.specs.Meaning.{meaning}
use Rattle.tera.specs.Order.{compare}
use Rattle.tera_filters.specs.Arrays.{first_ones, has_same, mean_same}

any_where_found : {X : Type 0} (p : X → Bool) (xs : List X) → list_any p xs ≡ is_some (find p xs)
any_where_found p [] = refl
any_where_found p (x ∷ xs) =
    elim (p x) as (λ b. (b || list_any p xs) ≡ is_some (cond b (Some x) (find p xs))) [ true ↦ refl | false ↦ any_where_found p xs ]

-- a set that finds what a list does holds what means the same as one of it
pub held_where_same : (keys xs : List Form) (x : Form)
    → find (eq_by_cmp (on meaning compare) x) keys ≡ find (eq_by_cmp (on meaning compare) x) xs
    → list_any (is_at (on meaning compare x)) keys ≡ has_same xs x
held_where_same keys xs x same =
    any_where_found (eq_by_cmp (on meaning compare) x) keys ∙ ap is_some same
    ∙ sym (any_where_found (eq_by_cmp (on meaning compare) x) xs)

-- one more behind a first item and what is kept of the others
behind : (x y : Form) (kept : List Form) (s h : Bool) → mean_same x y ≡ s
    → x ∷ filter (λ z. not (mean_same x z)) (cond h kept (kept ++ y ∷ []))
    ≡ cond (s || h) (x ∷ filter (λ z. not (mean_same x z)) kept) (x ∷ filter (λ z. not (mean_same x z)) kept ++ y ∷ [])
behind x y kept true true is = refl
behind x y kept false true is = refl
behind x y kept true false is =
    let left = filter (λ z. not (mean_same x z)) kept in
    ap (λ l. x ∷ l) (filter-append (λ z. not (mean_same x z)) kept (y ∷ [])
    ∙ ap (λ b. left ++ cond (not b) (y ∷ []) []) is ∙ append-nil left)
behind x y kept false false is =
    let left = filter (λ z. not (mean_same x z)) kept in
    ap (λ l. x ∷ l) (filter-append (λ z. not (mean_same x z)) kept (y ∷ []) ∙ ap (λ b. left ++ cond (not b) (y ∷ []) []) is)

-- an item behind others is put last, where none of them means the same
pub one_behind : (xs : List Form) (y : Form)
    → first_ones (xs ++ y ∷ []) ≡ cond (has_same xs y) (first_ones xs) (first_ones xs ++ y ∷ [])
one_behind [] y = refl
one_behind (x ∷ xs) y =
    ap (λ l. x ∷ filter (λ z. not (mean_same x z)) l) (one_behind xs y)
    ∙ behind x y (first_ones xs) (mean_same y x) (has_same xs y) (same_equivalence.symm (meaning x) (meaning y))

pub one_more : (xs : List Form) (i : ℕ) (x : Form) (made grown : List Form) (b : Bool) → i < length xs → x ≡ get_or xs i x
    → has_same (take i xs) x ≡ b → grown ≡ cond b made (made ++ x ∷ []) → made ≡ first_ones (take i xs)
    → grown ≡ first_ones (take (i + 1) xs)
one_more xs i x made grown b below is has grows so_far =
    let front : take (i + 1) xs ≡ take i xs ++ x ∷ [] = (take_at_read xs i x below).1 ∙ ap (λ last. take i xs ++ last ∷ []) (sym is) in
    grows ∙ ap (λ l. cond b l (l ++ x ∷ [])) so_far
    ∙ sym (ap first_ones front ∙ one_behind (take i xs) x
    ∙ ap (λ c. cond c (first_ones (take i xs)) (first_ones (take i xs) ++ x ∷ [])) has)

pub all_seen : (xs : List Form) (i : ℕ) (made : List Form) → length xs ≤ i → made ≡ first_ones (take i xs) → made ≡ first_ones xs
all_seen xs i made past so_far = so_far ∙ ap first_ones (take_all i xs past)
