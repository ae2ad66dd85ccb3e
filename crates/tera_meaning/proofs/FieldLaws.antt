-- Texts in their places: they rise, and are the only rising list of just these texts.
use Rattle.std.specs.Prelude.{◌≡◌, ◌⊎◌, ℕ, List, [], ◌∷◌, refl}
use Rattle.std.proofs.Common.{sym, ◌∙◌, ap, inl, inr, rules}
use Rattle.std.specs.BTreeSet.{insert_key}
use Rattle.std.specs.Cmp.{tied_itself}
use Rattle.std.specs.Cmp.Lexicographic.{slice_cmp, nat_list_cmp_total}
use Rattle.std.specs.List.{AllByRecursion}
use Rattle.std.specs.List.Sorted.{IsStrictlySortedBy}
use Rattle.std.specs.Ordering.{nat_cmp, match_ordering}
use Rattle.std.specs.declared.cmp.Ordering.{Ordering}
use Rattle.std.specs.declared.cmp.Ordering.TheVariants.{Less, Equal, Greater}
use Rattle.tera_meaning.proofs.Among.{Among, among, contained}
use Rattle.tera_meaning.proofs.StateLaws.{name_exact}
use Rattle.tera_meaning.specs.Fields.{AreRisingOf, rising_texts}

abbrev order : List ℕ → List ℕ → Ordering
order = slice_cmp nat_cmp

-- a text is less than each of a list
abbrev Below : List ℕ → List (List ℕ) → Type 0
Below s ts = AllByRecursion (λ t. order s t ≡ Less) ts

below_less : (s t : List ℕ) (us : List (List ℕ)) → order s t ≡ Less → Below t us → Below s us
below_less s t [] p h = tt
below_less s t (u ∷ us) p h = (nat_list_cmp_total.trans s t u p h.0, below_less s t us p h.1)

below_put : (s t : List ℕ) (us : List (List ℕ)) → order s t ≡ Less → Below s us → Below s (insert_key order us t)
below_put s t [] p h = (p, tt)
below_put s t (u ∷ us) p h = search (rules, order, (below_put s t us p h.1))

put_rises : (t : List ℕ) (us : List (List ℕ)) → IsStrictlySortedBy order us → IsStrictlySortedBy order (insert_key order us t)
unfolding IsStrictlySortedBy
put_rises t [] h = (tt, tt)
put_rises t (u ∷ us) h = search (rules, order, below_less, below_put, nat_list_cmp_total, (put_rises t us h.1))

rising_rises : (ts : List (List ℕ)) → IsStrictlySortedBy order (rising_texts ts)
unfolding IsStrictlySortedBy
rising_rises [] = tt
rising_rises (t ∷ ts) = put_rises t (rising_texts ts) (rising_rises ts)

-- what is put and what was there are there, and nothing else
put_has : (t : List ℕ) (us : List (List ℕ)) (x : List ℕ) → (x ≡ t) ⊎ Among us x → Among (insert_key order us t) x
put_has t [] x a = a
put_has t (u ∷ us) x a = elim (order t u) as (λ r. order t u ≡ r → Among (match_ordering r (t ∷ u ∷ us) (u ∷ us) (u ∷ insert_key order us t)) x) [
  | Less ↦ λ p. a
  | Equal ↦ λ p. elim a as (λ _. Among (u ∷ us) x) [ inl is ↦ inl (is ∙ name_exact t u p) | inr old ↦ old ]
  | Greater ↦ λ p. elim a as (λ _. Among (u ∷ insert_key order us t) x) [
    | inl is ↦ inr (put_has t us x (inl is))
    | inr old ↦ elim old as (λ _. Among (u ∷ insert_key order us t) x) [ inl first ↦ inl first | inr later ↦ inr (put_has t us x (inr later)) ]
  ]
] refl

put_had : (t : List ℕ) (us : List (List ℕ)) (x : List ℕ) → Among (insert_key order us t) x → (x ≡ t) ⊎ Among us x
put_had t [] x a = a
put_had t (u ∷ us) x i = elim (order t u) as (λ r. Among (match_ordering r (t ∷ u ∷ us) (u ∷ us) (u ∷ insert_key order us t)) x → (x ≡ t) ⊎ Among (u ∷ us) x) [
  | Less ↦ λ a. a
  | Equal ↦ λ a. inr a
  | Greater ↦ λ a. elim a as (λ _. (x ≡ t) ⊎ Among (u ∷ us) x) [
    | inl first ↦ inr (inl first)
    | inr old ↦ elim (put_had t us x old) as (λ _. (x ≡ t) ⊎ Among (u ∷ us) x) [ inl is ↦ inl is | inr later ↦ inr (inr later) ]
  ]
] i

rising_has : (ts : List (List ℕ)) (x : List ℕ) → Among ts x → Among (rising_texts ts) x
rising_has [] x a = a
rising_has (t ∷ ts) x (inl is) = put_has t (rising_texts ts) x (inl is)
rising_has (t ∷ ts) x (inr a) = put_has t (rising_texts ts) x (inr (rising_has ts x a))

rising_had : (ts : List (List ℕ)) (x : List ℕ) → Among (rising_texts ts) x → Among ts x
rising_had [] x a = a
rising_had (t ∷ ts) x a = elim (put_had t (rising_texts ts) x a) as (λ _. (x ≡ t) ⊎ Among ts x) [ inl is ↦ inl is | inr old ↦ inr (rising_had ts x old) ]

-- ---- two lists that rise and have the same texts are one

below_among : (s : List ℕ) (ts : List (List ℕ)) (x : List ℕ) → Below s ts → Among ts x → order s x ≡ Less
below_among s [] x h a = absurd a
below_among s (t ∷ ts) x h (inl is) = ap (order s) is ∙ h.0
below_among s (t ∷ ts) x h (inr a) = below_among s ts x h.1 a

one_head : (s t : List ℕ) (ss ts : List (List ℕ)) → Below s ss → Below t ts → (s ≡ t) ⊎ Among ts s → (t ≡ s) ⊎ Among ss t → s ≡ t
one_head s t ss ts h g x6 b = search (rules, below_among, nat_list_cmp_total)

later : (s t x : List ℕ) (ts : List (List ℕ)) → order s x ≡ Less → s ≡ t → (x ≡ t) ⊎ Among ts x → Among ts x
later s t x ts m is x6 = search (rules, tied_itself, nat_list_cmp_total)

one_list : (ss ts : List (List ℕ)) → IsStrictlySortedBy order ss → IsStrictlySortedBy order ts → ((x : List ℕ) → Among ss x → Among ts x)
    → ((x : List ℕ) → Among ts x → Among ss x) → ss ≡ ts
unfolding IsStrictlySortedBy
one_list [] [] h g there back = refl
one_list [] (t ∷ ts) h g there back = absurd (back t (inl refl))
one_list (s ∷ ss) [] h g there back = absurd (there s (inl refl))
one_list (s ∷ ss) (t ∷ ts) h g there back =
    let head : s ≡ t = one_head s t ss ts h.0 g.0 (there s (inl refl)) (back t (inl refl)) in
    let tail : ss ≡ ts = one_list ss ts h.1 g.1
    (λ x a. later s t x ts (below_among s ss x h.0 a) head (there x (inr a)))
    (λ x a. later t s x ss (below_among t ts x g.0 a) (sym head) (back x (inr a))) in
    λ i. head i ∷ tail i

pub rising_are_rising : (texts : List (List ℕ)) → AreRisingOf texts (rising_texts texts)
rising_are_rising texts = search (rules, rising_rises, contained, rising_had, among, rising_has)

pub only_rising_texts : (texts names : List (List ℕ)) → AreRisingOf texts names → names ≡ rising_texts texts
only_rising_texts texts names (rises, has) =
    one_list names (rising_texts texts) rises (rising_rises texts)
    (λ x a. rising_has texts x (among texts x ((has x).0 (contained names x a))))
    (λ x a. among names x ((has x).1 (contained texts x (rising_had texts x a))))
