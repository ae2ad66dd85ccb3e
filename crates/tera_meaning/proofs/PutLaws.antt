-- Lists of pairs in the order of insertion: what is found in them, that their keys stay distinct, and their rising lists.
use Rattle.std.specs.Prelude.{◌≡◌, suc, Bool, true, false, cond, if◌then◌else◌, List, [], ◌∷◌, ◌++◌, map, length, Some, None, is_some, refl}
use Rattle.std.proofs.Common.{sym, ◌∙◌, ap, rules}
use Rattle.std.proofs.lemmas.Bool.{true≢false}
use Rattle.std.proofs.lemmas.Option.{none-some}
use Rattle.std.specs.BTreeMap.{insert_entry}
use Rattle.std.specs.Cmp.{IsTotalOrder, alike_right, eq_by_cmp_equiv, Equal-is}
use Rattle.std.specs.List.{AllByRecursion, IsDistinct}
use Rattle.std.specs.Map.{keys_of}
use Rattle.std.specs.Ordering.{ordering_reverse, eq_by_cmp, is_eq, on, match_ordering}
use Rattle.std.specs.declared.cmp.Ordering.{Ordering}
use Rattle.std.specs.declared.cmp.Ordering.TheVariants.{Less, Equal, Greater}
use Rattle.tera_meaning.specs.Pairs.{HasDistinctKeys, put, put_all, rising, value_at}
use Rattle.tera_meaning.proofs.PairLaws.{turned, joined, shadowed, swapped}

longer : (b : Bool) {X : Type 0} (xs : List X) → suc (cond b (length xs) (suc (length xs))) ≡ cond b (suc (length xs)) (suc (suc (length xs)))
longer x0 xs = search rules

module _ {K V : Type 0} (order : K → K → Ordering) where
  -- a key that ties with none is put behind all pairs, and one that ties in the place of the first such pair
  pub put_last : (ps : List (K × V)) (k : K) (v : V) → value_at order ps k ≡ None → put order ps k v ≡ ps ++ ((k, v) ∷ [])
  put_last [] k v none = refl
  put_last (p ∷ ps) k v none = search (rules, none-some, (put_last ps k v))

  pub put_in_place : (ps : List (K × V)) (q : K × V) (qs : List (K × V)) (k : K) (v : V) → value_at order ps k ≡ None → eq_by_cmp order k q.0 ≡ true
      → put order (ps ++ q ∷ qs) k v ≡ ps ++ (q.0, v) ∷ qs
  put_in_place [] q qs k v none tie = ap (λ (b : Bool). if b then (q.0, v) ∷ qs else q ∷ put order qs k v) tie
  put_in_place (p ∷ ps) q qs k v none tie = search (rules, none-some, (put_in_place ps q qs k v))

  -- there is one pair more where the key was not there
  pub length_put : (ps : List (K × V)) (k : K) (v : V)
      → length (put order ps k v) ≡ cond (is_some (value_at order ps k)) (length ps) (suc (length ps))
  length_put [] k v = refl
  length_put (p ∷ ps) k v = search (rules, longer, (length_put ps k v))

  apart_put : (l : K) (ps : List (K × V)) (k : K) (v : V) → eq_by_cmp order l k ≡ false → AllByRecursion (λ y. eq_by_cmp order l y ≡ false) (keys_of ps)
      → AllByRecursion (λ y. eq_by_cmp order l y ≡ false) (keys_of (put order ps k v))
  apart_put l [] k v n h = (n, tt)
  apart_put l (p ∷ ps) k v n h = search (rules, (apart_put l ps k v n h.1))

  module _ (total : IsTotalOrder order) where
    -- keys stay distinct
    pub distinct_put : (ps : List (K × V)) (k : K) (v : V) → HasDistinctKeys order ps → HasDistinctKeys order (put order ps k v)
    unfolding IsDistinct
    distinct_put [] k v h = (tt, tt)
    distinct_put (p ∷ ps) k v h =
        elim (eq_by_cmp order k p.0) as (λ b. eq_by_cmp order k p.0 ≡ b → HasDistinctKeys order (if b then (p.0, v) ∷ ps else p ∷ put order ps k v)) [
          | true ↦ λ e. h
          | false ↦ λ e. (apart_put p.0 ps k v ((eq_by_cmp_equiv total).symm p.0 k ∙ e) h.0, distinct_put ps k v h.1)
        ] refl

    pub distinct_put_all : (ps es : List (K × V)) → HasDistinctKeys order ps → HasDistinctKeys order (put_all order ps es)
    distinct_put_all ps [] h = h
    distinct_put_all ps (e ∷ es) h = distinct_put_all (put order ps e.0 e.1) es (distinct_put ps e.0 e.1 h)

    -- what is put is found by the keys that tie with its key, and all else as before
    pub found_put : (ps : List (K × V)) (k : K) (v : V) (q : K)
        → value_at order (put order ps k v) q ≡ cond (eq_by_cmp order q k) (Some v) (value_at order ps q)
    found_put [] k v q = refl
    found_put (p ∷ ps) k v q = search (rules, shadowed, alike_right, Equal-is, swapped, true≢false, joined, (found_put ps k v q))

    -- ---- the rising list of what was put

    -- how an entry takes its place before, at or behind the first of others
    taken : (k : K) (v : V) (e : K × V) (es : List (K × V)) (r : Ordering) → order k e.0 ≡ r
        → insert_entry order (e ∷ es) k v ≡ match_ordering r ((k, v) ∷ e ∷ es) ((e.0, v) ∷ es) (e ∷ insert_entry order es k v)
    taken k v e es r is = ap (λ s. match_ordering s ((k, v) ∷ e ∷ es) ((e.0, v) ∷ es) (e ∷ insert_entry order es k v)) is

    -- of two entries whose keys tie the later takes the place of the earlier
    insert_tied : (k l : K) (u v : V) → order k l ≡ Equal → (es : List (K × V))
        → insert_entry order (insert_entry order es l u) k v ≡ insert_entry order es l v
    insert_tied k l u v tie [] = taken k v (l, u) [] Equal tie
    insert_tied k l u v tie (e ∷ es) = search (rules, taken, (insert_tied k l u v tie es))

    -- entries of two keys take their places in either order
    module _ (k l : K) (u v : V) (less : order k l ≡ Less) where
      above : order l k ≡ Greater
      above = total.antisymm l k ∙ ap ordering_reverse less

      before_all : (e : K × V) (es : List (K × V)) → order k e.0 ≡ Less
          → insert_entry order (insert_entry order (e ∷ es) l u) k v ≡ (k, v) ∷ insert_entry order (e ∷ es) l u
      before_all e es is =
          elim (order l e.0) as (λ r. insert_entry order (match_ordering r ((l, u) ∷ e ∷ es) ((e.0, u) ∷ es) (e ∷ insert_entry order es l u)) k v
          ≡ (k, v) ∷ match_ordering r ((l, u) ∷ e ∷ es) ((e.0, u) ∷ es) (e ∷ insert_entry order es l u)) [
            | Less ↦ taken k v (l, u) (e ∷ es) Less less
            | Equal ↦ taken k v (e.0, u) es Less is
            | Greater ↦ taken k v e (insert_entry order es l u) Less is
          ]

      pub insert_turned : (es : List (K × V)) → insert_entry order (insert_entry order es k v) l u ≡ insert_entry order (insert_entry order es l u) k v
      insert_turned [] = taken l u (k, v) [] Greater above ∙ sym (taken k v (l, u) [] Less less)
      insert_turned (e ∷ es) =
          elim (order k e.0) as (λ r. order k e.0 ≡ r
          → insert_entry order (match_ordering r ((k, v) ∷ e ∷ es) ((e.0, v) ∷ es) (e ∷ insert_entry order es k v)) l u
          ≡ insert_entry order (insert_entry order (e ∷ es) l u) k v) [
            | Less ↦ λ is. taken l u (k, v) (e ∷ es) Greater above ∙ sym (before_all e es is)
            | Equal ↦ λ is.
                let behind : order l e.0 ≡ Greater = sym (alike_right total k e.0 l is) ∙ above in
                taken l u (e.0, v) es Greater behind
                ∙ sym (ap (λ ys. insert_entry order ys k v) (taken l u e es Greater behind) ∙ taken k v e (insert_entry order es l u) Equal is)
            | Greater ↦ λ is.
                let behind : order l e.0 ≡ Greater = total.antisymm l e.0 ∙ ap ordering_reverse (total.trans e.0 k l (turned order total k e.0 is) less) in
                taken l u e (insert_entry order es k v) Greater behind
                ∙ ap (λ ys. e ∷ ys) (insert_turned es)
                ∙ sym (ap (λ ys. insert_entry order ys k v) (taken l u e es Greater behind) ∙ taken k v e (insert_entry order es l u) Greater is)
          ] refl

    pub rising_put : (ps : List (K × V)) (k : K) (v : V) → rising order (put order ps k v) ≡ insert_entry order (rising order ps) k v
    rising_put [] k v = refl
    rising_put (p ∷ ps) k v =
        elim (order k p.0) as (λ r. order k p.0 ≡ r → rising order (if is_eq r then (p.0, v) ∷ ps else p ∷ put order ps k v)
        ≡ insert_entry order (insert_entry order (rising order ps) p.0 p.1) k v) [
          | Less ↦ λ is. ap (λ ys. insert_entry order ys p.0 p.1) (rising_put ps k v) ∙ insert_turned k p.0 p.1 v is (rising order ps)
          | Equal ↦ λ is. sym (insert_tied k p.0 p.1 v is (rising order ps))
          | Greater ↦ λ is. ap (λ ys. insert_entry order ys p.0 p.1) (rising_put ps k v)
              ∙ sym (insert_turned p.0 k v p.1 (turned order total k p.0 is) (rising order ps))
        ] refl

-- keys and values read through functions
module _ {J K U V : Type 0} (f : J → K) (g : U → V) (order : K → K → Ordering) where
  pub put_read : (ps : List (J × U)) (k : J) (v : U)
      → map (λ p. (f p.0, g p.1)) (put (on f order) ps k v) ≡ put order (map (λ p. (f p.0, g p.1)) ps) (f k) (g v)
  put_read [] k v = refl
  put_read (p ∷ ps) k v = search (rules, (put_read ps k v))

  apart_read : (k : J) (ps : List (J × U)) → AllByRecursion (λ y. eq_by_cmp (on f order) k y ≡ false) (keys_of ps)
      → AllByRecursion (λ y. eq_by_cmp order (f k) y ≡ false) (keys_of (map (λ p. (f p.0, g p.1)) ps))
  apart_read k [] h = tt
  apart_read k (p ∷ ps) h = (h.0, apart_read k ps h.1)

  pub distinct_read : (ps : List (J × U)) → HasDistinctKeys (on f order) ps → HasDistinctKeys order (map (λ p. (f p.0, g p.1)) ps)
  unfolding IsDistinct
  distinct_read [] h = tt
  distinct_read (p ∷ ps) h = (apart_read p.0 ps h.0, distinct_read ps h.1)
