-- Keys in a list: the place of one, and lists of keys of the same forms.
use Rattle.std.specs.Prelude.{◌≡◌, nat_eq, ◌+◌, ℕ, Bool, suc, true, false, not, cond, ◌||◌, nat_lt, is_some, List, [], ◌∷◌, ◌++◌, length, map, Option, Some}
use Rattle.std.specs.Prelude.{None, position, refl}
use Rattle.std.proofs.Common.{sym, ◌∙◌, ap, arith, get_or}
use Rattle.std.proofs.lemmas.Bool.Decides.{nat_tests}
use Rattle.std.proofs.lemmas.Map.Keys.{IsDistinct-push}
use Rattle.std.specs.Cmp.{IsEquivalence, on_equiv}
use Rattle.std.specs.List.{AllByRecursion, IsDistinct, list_any, position_or_len}
use Rattle.std.specs.Ordering.{eq_by_cmp}
use Rattle.tera_meaning.specs.Pairs.{key_form_order}
use Rattle.std.specs.Cmp.Lexicographic.{pointwise, texts_ties}
use Rattle.tera_meaning.proofs.KeyLaws.{key_equivalence, key_is}
use Rattle.tera_meaning.specs.KeyMeaning.{key_order, text_key}
use Rattle.tera_values.specs.Key.{key_form, meaning_of_key}
use Rattle.tera_values.specs.inner.Map.{keys_tie}
use Rattle.tera_values.specs.declared.key.Key.{Key}

-- where a key is equal, its place is below the length, and else it is the length
pub place_tells : (test : Key → Bool) (ks : List Key) → nat_lt (position_or_len test ks) (length ks) ≡ list_any test ks
place_tells test [] = let none : nat_lt 0 0 ≡ false = grind (arith, nat_tests) in none
place_tells test (x ∷ ks) =
    elim (test x) as (λ b. nat_lt (cond (not b) (1 + position_or_len test ks) 0) (suc (length ks)) ≡ (b || list_any test ks)) [
      | true ↦ let some : nat_lt 0 (suc (length ks)) ≡ true = grind (arith, nat_tests) in some
      | false ↦ let same : nat_lt (1 + position_or_len test ks) (suc (length ks)) ≡ nat_lt (position_or_len test ks) (length ks) = grind (arith, nat_tests) in
          same ∙ place_tells test ks
    ]

tells : (b : Bool) (i : ℕ) → is_some (cond b (Some i) None) ≡ b
tells true i = refl
tells false i = refl

pub found_where_placed : (test : Key → Bool) (ks : List Key) (r : Option ℕ) → r ≡ position test ks → is_some r ≡ list_any test ks
found_where_placed test ks r is = ap is_some is ∙ tells (nat_lt (position_or_len test ks) (length ks)) (position_or_len test ks) ∙ place_tells test ks

from_some : (b : Bool) (p i : ℕ) → Some i ≡ cond b (Some p) None → (i ≡ p) × (b ≡ true)
from_some true p i e = (cc, refl)
from_some false p i e = cc

from_none : (b : Bool) (p : ℕ) → None ≡ cond b (Some p) None → b ≡ false
from_none true p e = cc
from_none false p e = refl

-- what a place says
pub at_place : (test : Key → Bool) (ks : List Key) (i : ℕ) → Some i ≡ position test ks → i ≡ position_or_len test ks
at_place test ks i at = (from_some (nat_lt (position_or_len test ks) (length ks)) (position_or_len test ks) i at).0

pub held_at_place : (test : Key → Bool) (ks : List Key) (i : ℕ) → Some i ≡ position test ks → false ≡ not (list_any test ks)
held_at_place test ks i at =
    let below = (from_some (nat_lt (position_or_len test ks) (length ks)) (position_or_len test ks) i at).1 in
    ap not (sym (sym (place_tells test ks) ∙ below))

pub no_place : (test : Key → Bool) (ks : List Key) → None ≡ position test ks → list_any test ks ≡ false
no_place test ks at = sym (place_tells test ks) ∙ from_none (nat_lt (position_or_len test ks) (length ks)) (position_or_len test ks) at

pub new_at_end : (test : Key → Bool) (ks : List Key) → None ≡ position test ks → true ≡ not (list_any test ks)
new_at_end test ks at = ap not (sym (no_place test ks at))

pub absent_place : (test : Key → Bool) (ks : List Key) → list_any test ks ≡ false → length ks ≡ position_or_len test ks
absent_place test [] none = refl
absent_place test (x ∷ ks) none =
    elim (test x) as (λ b. (b || list_any test ks) ≡ false → suc (length ks) ≡ cond (not b) (1 + position_or_len test ks) 0) [
      | true ↦ λ no. cc
      | false ↦ λ no. let rest = absent_place test ks no in omega (arith, rest)
    ] none

pub at_end : (test : Key → Bool) (ks : List Key) → None ≡ position test ks → length ks ≡ position_or_len test ks
at_end test ks at = absent_place test ks (no_place test ks at)

pub ruleset placing = (at_place, held_at_place, new_at_end, at_end)

pub keys_equivalence : IsEquivalence keys_tie
keys_equivalence = on_equiv meaning_of_key key_equivalence

-- one more key, which no key is equal to
pub one_more_distinct : (ks : List Key) (k : Key) → IsDistinct keys_tie ks → list_any (keys_tie k) ks ≡ false → IsDistinct keys_tie (ks ++ k ∷ [])
one_more_distinct ks k h none = IsDistinct-push keys_equivalence ks k h none

apart : (x k : Key) (xs ys : List Key) → AllByRecursion (λ y. keys_tie x y ≡ false) (xs ++ k ∷ ys) → keys_tie x k ≡ false
apart x k [] ys h = h.0
apart x k (z ∷ xs) ys h = apart x k xs ys h.1

-- of distinct keys, none before a key is equal to it
pub none_in_front : (xs : List Key) (k : Key) (ys : List Key) → IsDistinct keys_tie (xs ++ k ∷ ys) → list_any (keys_tie k) xs ≡ false
unfolding IsDistinct
none_in_front [] k ys h = refl
none_in_front (x ∷ xs) k ys h =
    λ j. ((keys_equivalence.symm k x ∙ apart x k xs ys h.0) j || none_in_front xs k ys h.1 j)

differs_alike : (x y : Key) (ks made : List Key) → key_form y ≡ key_form x → map key_form made ≡ map key_form ks
    → AllByRecursion (λ z. keys_tie x z ≡ false) ks → AllByRecursion (λ z. keys_tie y z ≡ false) made
differs_alike x y [] [] like e h = tt
differs_alike x y [] (z ∷ made) like e h = cc
differs_alike x y (w ∷ ks) [] like e h = cc
differs_alike x y (w ∷ ks) (z ∷ made) like e h =
    let first : key_form z ≡ key_form w = cc in
    let rest : map key_form made ≡ map key_form ks = cc in
    ((λ j. eq_by_cmp key_form_order (like j) (first j)) ∙ h.0, differs_alike x y ks made like rest h.1)

-- keys of the same forms are as distinct
pub distinct_alike : (ks made : List Key) → map key_form made ≡ map key_form ks → IsDistinct keys_tie ks → IsDistinct keys_tie made
unfolding IsDistinct
distinct_alike [] [] e h = tt
distinct_alike [] (z ∷ made) e h = cc
distinct_alike (w ∷ ks) [] e h = cc
distinct_alike (w ∷ ks) (z ∷ made) e h =
    let first : key_form z ≡ key_form w = cc in
    let rest : map key_form made ≡ map key_form ks = cc in
    (differs_alike w z ks made first rest h.0, distinct_alike ks made rest h.1)

pub one_key_distinct : (k : Key) → IsDistinct keys_tie (k ∷ [])
unfolding IsDistinct
one_key_distinct k = (tt, tt)

-- texts that differ are no equal keys
unlike_texts : (s t : List ℕ) → (s ≡ t → ⊥) → eq_by_cmp key_order (text_key s) (text_key t) ≡ false
unlike_texts s t differ = by (eq_by_cmp key_order (text_key s) (text_key t)) refl
  where
    by : (b : Bool) → eq_by_cmp key_order (text_key s) (text_key t) ≡ b → eq_by_cmp key_order (text_key s) (text_key t) ≡ false
    by false e = e
    by true e = let same : text_key s ≡ text_key t = (key_is (text_key s) (text_key t)).0 e in absurd (differ (let texts : s ≡ t = cc in texts))

pub long_apart : (s t : List ℕ) → (length s ≡ length t → ⊥) → false ≡ eq_by_cmp key_order (text_key s) (text_key t)
long_apart s t differ = sym (unlike_texts s t (λ e. differ (ap length e)))

pub byte_apart : (s t : List ℕ) (i : ℕ) → (get_or s i 0 ≡ get_or t i 0 → ⊥) → false ≡ eq_by_cmp key_order (text_key s) (text_key t)
byte_apart s t i differ = sym (unlike_texts s t (λ e. differ (ap (λ l. get_or l i 0) e)))

pub same_texts : (s t : List ℕ) → pointwise nat_eq s t ≡ eq_by_cmp key_order (text_key s) (text_key t)
same_texts s t = texts_ties s t

pub ruleset unlike = (long_apart, byte_apart, same_texts)
