-- When a walk shows that two arrays or two maps mean the same.
use Rattle.std.proofs.Common.{◌≡◌, ◌≢◌, ◌<◌, ◌≤◌, ◌||◌, ℕ, zero, suc, Bool, true, false, not, cond}
use Rattle.std.proofs.Common.{List, [], ◌∷◌, length, get_or, drop, ◌∙◌, Option, None, Some, IsSome, refl, sym, ap, subst, arith}
use Rattle.std.proofs.lemmas.Map.Steps.{length-le_from_keys}
use Rattle.std.specs.Cmp.{eq_by_cmp_equiv}
use Rattle.std.specs.List.{list_any}
use Rattle.std.specs.Map.{keys_of}
use Rattle.std.specs.Option.{is_some, option_eq}
use Rattle.std.specs.Ordering.{is_eq, eq_by_cmp, ordering_then}
use Rattle.std.specs.declared.cmp.Ordering.{Ordering}
use Rattle.std.specs.declared.cmp.Ordering.TheVariants.{Less, Equal, Greater}
use Rattle.tera_meaning.proofs.EntryLaws.{forms_tie}
use Rattle.tera_meaning.specs.Form.{Form}
use Rattle.tera_meaning.specs.KeyMeaning.{KeyForm}
use Rattle.tera_meaning.specs.Meaning.{meaning}
use Rattle.tera_meaning.specs.Order.{compare, same}
use Rattle.tera_meaning.specs.Pairs.{key_form_order, value_at, HasDistinctKeys, AgreeEverywhere}
use Rattle.tera_meaning.proofs.KeyLaws.{form_total}
use Rattle.tera_values.proofs.PartsLaws.{lists_order}
use Rattle.tera_values.proofs.MapDifferenceLemmas.{from_left, left_walk, both_walks, walks_meet_least, one_walk, all_tie, length_keys}
use Rattle.tera_values.specs.inner.MapDifference.{form_values, is_before, difference_at, met, least_met, maps_order, IsDifference}
use Rattle.tera_values.specs.declared.map_difference.Difference.{Difference}

not_equal : (o : Ordering) → o ≢ Equal → is_eq o ≡ false
not_equal Less n = refl
not_equal Equal n = absurd (n refl)
not_equal Greater n = refl

-- ---- arrays

differs_then : (o p : Ordering) → is_eq o ≡ false → is_eq (ordering_then o p) ≡ false
differs_then Less p e = refl
differs_then Equal p e = cc
differs_then Greater p e = refl

differs_later : (o p : Ordering) → is_eq p ≡ false → is_eq (ordering_then o p) ≡ false
differs_later Less p e = refl
differs_later Equal p e = e
differs_later Greater p e = refl

ties_then : (o p : Ordering) → is_eq o ≡ true → ordering_then o p ≡ p
ties_then Less p e = cc
ties_then Equal p e = refl
ties_then Greater p e = cc

-- arrays that mean the same have as many items
pub uneven_items : (xs ys : List Form) → length xs ≢ length ys → is_eq (lists_order xs ys) ≡ false
uneven_items [] [] n = absurd (n refl)
uneven_items [] (y ∷ ys) n = refl
uneven_items (x ∷ xs) [] n = refl
uneven_items (x ∷ xs) (y ∷ ys) n =
    differs_later (compare (meaning x) (meaning y)) (lists_order xs ys) (uneven_items xs ys (λ e. n (ap suc e)))

item_same : (x y v w : Form) (b : Bool) → v ≡ x → w ≡ y → same (meaning v) (meaning w) ≡ b → same (meaning x) (meaning y) ≡ b
item_same x y v w b e f h = sym (ap (λ u. same (meaning u) (meaning w)) e ∙ ap (λ u. same (meaning x) (meaning u)) f) ∙ h

-- where two items in one place mean the same, those behind them decide
pub goes_even : (xs ys : List Form) (i : ℕ) (v w : Form) → i < length xs → i < length ys → v ≡ get_or xs i v → w ≡ get_or ys i w
    → same (meaning v) (meaning w) ≡ true → lists_order (drop i xs) (drop i ys) ≡ lists_order (drop (suc i) xs) (drop (suc i) ys)
goes_even [] ys i v w h k e f s = absurd (omega arith)
goes_even (x ∷ xs) [] i v w h k e f s = absurd (omega arith)
goes_even (x ∷ xs) (y ∷ ys) zero v w h k e f s =
    ties_then (compare (meaning x) (meaning y)) (lists_order xs ys) (item_same x y v w true e f s)
goes_even (x ∷ xs) (y ∷ ys) (suc i) v w h k e f s = goes_even xs ys i v w (omega arith) (omega arith) e f s

-- where two do not, the arrays do not
pub differs_here : (xs ys : List Form) (i : ℕ) (v w : Form) → i < length xs → i < length ys → v ≡ get_or xs i v → w ≡ get_or ys i w
    → same (meaning v) (meaning w) ≡ false → is_eq (lists_order (drop i xs) (drop i ys)) ≡ false
differs_here [] ys i v w h k e f s = absurd (omega arith)
differs_here (x ∷ xs) [] i v w h k e f s = absurd (omega arith)
differs_here (x ∷ xs) (y ∷ ys) zero v w h k e f s =
    differs_then (compare (meaning x) (meaning y)) (lists_order xs ys) (item_same x y v w false e f s)
differs_here (x ∷ xs) (y ∷ ys) (suc i) v w h k e f s = differs_here xs ys i v w (omega arith) (omega arith) e f s

-- behind the last ones nothing is left that could differ
pub all_even : (xs ys : List Form) (n : ℕ) → length xs ≡ length ys → n ≡ length xs → is_eq (lists_order (drop n xs) (drop n ys)) ≡ true
all_even [] [] zero e h = refl
all_even [] [] (suc n) e h = absurd (omega arith)
all_even [] (y ∷ ys) n e h = absurd (omega arith)
all_even (x ∷ xs) [] n e h = absurd (omega arith)
all_even (x ∷ xs) (y ∷ ys) zero e h = absurd (omega arith)
all_even (x ∷ xs) (y ∷ ys) (suc n) e h = all_even xs ys n (omega arith) (omega arith)

-- ---- maps

-- a walk that has met a difference has met one at its end
met_some : (d : KeyForm × Difference) (k : KeyForm) (how : Option Difference) → IsSome (met (Some d) k how)
met_some d k how =
    elim (is_before key_form_order k (Some d)) as (λ b. IsSome (cond b (difference_at how k (Some d)) (Some d))) [
      | true ↦ elim how as (λ h. IsSome (difference_at h k (Some d))) [ None ↦ refl | Some h ↦ refl ]
      | false ↦ refl
    ]

some_left : {V : Type 0} (differs : KeyForm × V → Option Difference) (found : Option (KeyForm × Difference)) (es : List (KeyForm × V)) → IsSome found
    → IsSome (least_met differs found es)
some_left differs None es some = cc
some_left differs (Some d) [] some = refl
some_left differs (Some d) (e ∷ es) some = some_left differs (met (Some d) e.0 (differs e)) es (met_some d e.0 (differs e))

some_new : (k : KeyForm) (how : Option Difference) → not (is_some how) ≡ false → IsSome (met None k how)
some_new k None is = cc
some_new k (Some h) is = refl

pub none_new : (k : KeyForm) (how : Option Difference) → not (is_some how) ≡ true → met None k how ≡ None
none_new k None is = refl
none_new k (Some h) is = cc

-- a key has a value where it is a key
has_value : (q : KeyForm) (es : List (KeyForm × Form)) → list_any (eq_by_cmp key_form_order q) (keys_of es) ≡ true → IsSome (value_at key_form_order es q)
has_value q [] any = cc
has_value q (e ∷ es) any =
    elim (eq_by_cmp key_form_order q e.0) as (λ b. (b || list_any (eq_by_cmp key_form_order q) (keys_of es)) ≡ true
    → IsSome (cond b (Some e.1) (value_at key_form_order es q))) [
      | true ↦ λ _. refl
      | false ↦ λ later. has_value q es later
    ] any

both_some : (x y : Option Form) → option_eq (eq_by_cmp form_values) x y ≡ true → (IsSome x → IsSome y) × (IsSome y → IsSome x)
both_some None None e = (λ s. s, λ s. s)
both_some None (Some w) e = cc
both_some (Some v) None e = cc
both_some (Some v) (Some w) e = (λ s. refl, λ s. refl)

as_many : (es fs : List (KeyForm × Form)) → HasDistinctKeys key_form_order es → ((q : KeyForm) → IsSome (value_at key_form_order es q)
    → IsSome (value_at key_form_order fs q)) → length es ≤ length fs
as_many es fs distinct there =
    subst (λ n. n ≤ length fs) (length_keys es)
    (length-le_from_keys (eq_by_cmp_equiv form_total) (keys_of es) fs distinct (λ q any. there q (has_value q es any)))

module _ (es fs : List (KeyForm × Form)) where
  agree : maps_order es fs ≡ Equal → AgreeEverywhere key_form_order form_values es fs
  agree tie = (forms_tie es fs).1 tie

  module _ (a : HasDistinctKeys key_form_order es) (b : HasDistinctKeys key_form_order fs) where
    -- maps that mean the same have as many pairs
    pub uneven : length es ≢ length fs → is_eq (maps_order es fs) ≡ false
    uneven n =
        not_equal (maps_order es fs) (λ tie.
        let more = as_many es fs a (λ q. (both_some _ _ (agree tie q)).0) in
        let fewer = as_many fs es b (λ q. (both_some _ _ (agree tie q)).1) in
        n (omega (arith, more, fewer)))

    -- where the walk meets a difference, they do not mean the same
    apart : (found : Option (KeyForm × Difference)) → IsDifference es fs found → IsSome found → is_eq (maps_order es fs) ≡ false
    apart None least some = cc
    apart (Some d) least some = not_equal (maps_order es fs) (λ tie. let same = agree tie d.0 in let other = least.0.0 in cc)

    pub met_here : (p : KeyForm × Form) (rest : List (KeyForm × Form)) → left_walk es fs ≡ least_met (from_left fs) None (p ∷ rest)
        → not (is_some (from_left fs p)) ≡ false → is_eq (maps_order es fs) ≡ false
    met_here p rest walk differs =
        let here = some_left (from_left fs) (met None p.0 (from_left fs p)) rest (some_new p.0 (from_left fs p) differs) in
        let first : IsSome (left_walk es fs) = subst IsSome (sym walk) here in
        apart (both_walks es fs) (walks_meet_least es fs a b) (some_left _ (left_walk es fs) fs first)

    -- where it meets none, and there are as many pairs, they do
    pub met_nowhere : left_walk es fs ≡ None → length es ≡ length fs → is_eq (maps_order es fs) ≡ true
    met_nowhere none even = ap is_eq (all_tie es fs (one_walk es fs a b none even))
