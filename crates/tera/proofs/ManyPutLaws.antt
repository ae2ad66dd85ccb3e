-- Entries that are put one after another: what is found in the pairs, and their keys.
use Rattle.std.specs.Prelude.{◌≡◌, Bool, true, false, cond, not, if◌then◌else◌, List, [], ◌∷◌, ◌++◌, reverse, Option, Some, None, is_some, refl}
use Rattle.std.proofs.Common.{sym, ◌∙◌, ap, subst, rules, append_assoc, append-nil}
use Rattle.std.proofs.lemmas.List.{reverse-append}
use Rattle.std.proofs.lemmas.Map.Keys.{IsDistinct-head, IsDistinct-tail}
use Rattle.std.specs.Cmp.{IsTotalOrder, eq_by_cmp_equiv}
use Rattle.std.specs.List.{AllByRecursion, filter}
use Rattle.std.specs.Map.{keys_of}
use Rattle.std.specs.Option.{option_or}
use Rattle.std.specs.Ordering.{eq_by_cmp}
use Rattle.std.specs.declared.cmp.Ordering.{Ordering}
use Rattle.tera_meaning.proofs.PutLaws.{found_put, put_last}
use Rattle.tera_meaning.specs.Pairs.{HasDistinctKeys, put, put_all, value_at}
use Rattle.tera.specs.PutKeys.{keys_beside}

option_or_none : {X : Type 0} (o : Option X) → option_or o None ≡ o
option_or_none x0 = search rules

option_or_assoc : {X : Type 0} (o p q : Option X) → option_or (option_or o p) q ≡ option_or o (option_or p q)
option_or_assoc x0 p q = search rules

one_or : {X : Type 0} (b : Bool) (x : X) (o : Option X) → option_or (cond b (Some x) None) o ≡ cond b (Some x) o
one_or x0 x o = search rules

one_beside : {K : Type 0} (b : Bool) (ks : List K) (k : K) (ls : List K) → cond b ks (ks ++ k ∷ []) ++ ls ≡ ks ++ cond (not b) (k ∷ ls) ls
one_beside true ks k ls = refl
one_beside false ks k ls = append_assoc ks (k ∷ []) ls

module _ {K V : Type 0} (order : K → K → Ordering) where
  -- a look-up in joined lists
  pub value_of_joined : (ps qs : List (K × V)) (q : K) → value_at order (ps ++ qs) q ≡ option_or (value_at order ps q) (value_at order qs q)
  value_of_joined [] qs q = refl
  value_of_joined (p ∷ ps) qs q = search (rules, (value_of_joined ps qs q))

  value_of_turned : (e : K × V) (es : List (K × V)) (q : K)
      → value_at order (reverse (e ∷ es)) q ≡ option_or (value_at order (reverse es) q) (cond (eq_by_cmp order q e.0) (Some e.1) None)
  value_of_turned e es q = ap (λ all. value_at order all q) (reverse-append (e ∷ []) es) ∙ value_of_joined (reverse es) (e ∷ []) q

  -- a put adds the key where it was not there
  pub keys_of_put : (ps : List (K × V)) (k : K) (v : V)
      → keys_of (put order ps k v) ≡ cond (is_some (value_at order ps k)) (keys_of ps) (keys_of ps ++ k ∷ [])
  keys_of_put [] k v = refl
  keys_of_put (p ∷ ps) k v =
      elim (eq_by_cmp order k p.0) as (λ b. keys_of (if b then (p.0, v) ∷ ps else p ∷ put order ps k v)
      ≡ cond (is_some (cond b (Some p.1) (value_at order ps k))) (keys_of (p ∷ ps)) (keys_of (p ∷ ps) ++ k ∷ [])) [
        | true ↦ refl
        | false ↦ ap (λ ks. p.0 ∷ ks) (keys_of_put ps k v) ∙ inside (is_some (value_at order ps k)) p.0 (keys_of ps) k
      ]
    where
      inside : (b : Bool) (j : K) (ks : List K) (k : K) → j ∷ cond b ks (ks ++ k ∷ []) ≡ cond b (j ∷ ks) (j ∷ (ks ++ k ∷ []))
      inside x0 j ks k = search rules

  module _ (total : IsTotalOrder order) where
    -- keys that tie find the same
    pub found_alike : (ps : List (K × V)) (k l : K) → eq_by_cmp order k l ≡ true → value_at order ps k ≡ value_at order ps l
    found_alike [] k l tie = refl
    found_alike (p ∷ ps) k l tie = λ i. cond ((eq_by_cmp_equiv total).congr k l p.0 tie i) (Some p.1) (found_alike ps k l tie i)

    -- a key that ties with one that is apart from all finds nothing
    none_apart : (es : List (K × V)) (q k : K) → eq_by_cmp order q k ≡ true → AllByRecursion (λ y. eq_by_cmp order k y ≡ false) (keys_of es)
        → value_at order es q ≡ None
    none_apart [] q k tie apart = refl
    none_apart (e ∷ es) q k tie apart =
        λ i. cond (((eq_by_cmp_equiv total).congr q k e.0 tie ∙ apart.0) i) (Some e.1) (none_apart es q k tie apart.1 i)

    -- the last entry whose key ties is found, and else what was found before
    pub last_found : (ps es : List (K × V)) (q : K)
        → value_at order (put_all order ps es) q ≡ option_or (value_at order (reverse es) q) (value_at order ps q)
    last_found ps [] q = refl
    last_found ps (e ∷ es) q =
        last_found (put order ps e.0 e.1) es q
        ∙ ap (option_or (value_at order (reverse es) q))
        (found_put order total ps e.0 e.1 q ∙ sym (one_or (eq_by_cmp order q e.0) e.1 (value_at order ps q)))
        ∙ sym (option_or_assoc (value_at order (reverse es) q) (cond (eq_by_cmp order q e.0) (Some e.1) None) (value_at order ps q))
        ∙ ap (λ o. option_or o (value_at order ps q)) (sym (value_of_turned e es q))

    turned_one : (b : Bool) (o : Option V) (v : V) → (b ≡ true → o ≡ None) → option_or o (cond b (Some v) None) ≡ cond b (Some v) o
    turned_one true o v none = ap (λ p. option_or p (Some v)) (none refl)
    turned_one false o v none = option_or_none o

    -- of distinct keys it does not count from which end a list is read
    pub found_turned : (es : List (K × V)) (q : K) → HasDistinctKeys order es → value_at order (reverse es) q ≡ value_at order es q
    found_turned [] q distinct = refl
    found_turned (e ∷ es) q distinct =
        value_of_turned e es q
        ∙ ap (λ o. option_or o (cond (eq_by_cmp order q e.0) (Some e.1) None))
        (found_turned es q (IsDistinct-tail (eq_by_cmp order) e.0 (keys_of es) distinct))
        ∙ turned_one (eq_by_cmp order q e.0) (value_at order es q) e.1
        (λ tie. none_apart es q e.0 tie (IsDistinct-head (eq_by_cmp order) e.0 (keys_of es) distinct))

    pub found_put_all : (ps es : List (K × V)) (q : K) → HasDistinctKeys order es
        → value_at order (put_all order ps es) q ≡ option_or (value_at order es q) (value_at order ps q)
    found_put_all ps es q distinct =
        last_found ps es q ∙ ap (λ o. option_or o (value_at order ps q)) (found_turned es q distinct)

    -- ---- the keys

    -- keys apart from one that is put find what they found
    beside_put : (ps : List (K × V)) (k : K) (v : V) (ks : List K) → AllByRecursion (λ y. eq_by_cmp order k y ≡ false) ks
        → filter (λ l. not (is_some (value_at order (put order ps k v) l))) ks ≡ filter (λ l. not (is_some (value_at order ps l))) ks
    beside_put ps k v [] apart = refl
    beside_put ps k v (l ∷ ks) apart =
        let untied : eq_by_cmp order l k ≡ false = (eq_by_cmp_equiv total).symm l k ∙ apart.0 in
        let same : value_at order (put order ps k v) l ≡ value_at order ps l =
        found_put order total ps k v l ∙ ap (λ b. cond b (Some v) (value_at order ps l)) untied in
        λ i. cond (not (is_some (same i))) (l ∷ beside_put ps k v ks apart.1 i) (beside_put ps k v ks apart.1 i)

    -- those of the pairs, and then those of the entries that are not there
    pub keys_of_put_all : (ps es : List (K × V)) → HasDistinctKeys order es
        → keys_of (put_all order ps es) ≡ keys_of ps ++ keys_beside order ps es
    keys_of_put_all ps [] distinct = sym (append-nil (keys_of ps))
    keys_of_put_all ps (e ∷ es) distinct =
        keys_of_put_all (put order ps e.0 e.1) es (IsDistinct-tail (eq_by_cmp order) e.0 (keys_of es) distinct)
        ∙ (λ i. keys_of_put ps e.0 e.1 i
        ++ beside_put ps e.0 e.1 (keys_of es) (IsDistinct-head (eq_by_cmp order) e.0 (keys_of es) distinct) i)
        ∙ one_beside (is_some (value_at order ps e.0)) (keys_of ps) e.0 (filter (λ l. not (is_some (value_at order ps l))) (keys_of es))

    -- ---- entries that are apart from all pairs

    absent_before : (ps : List (K × V)) (p : K × V) (qs : List (K × V)) → HasDistinctKeys order (ps ++ (p ∷ qs)) → value_at order ps p.0 ≡ None
    absent_before [] p qs distinct = refl
    absent_before (q ∷ ps) p qs distinct =
        λ i. cond ((symmetric p.0 q.0 ∙ apart_from q.0 ps p qs (IsDistinct-head (eq_by_cmp order) q.0 (keys_of (ps ++ (p ∷ qs))) distinct)) i) (Some q.1)
        (absent_before ps p qs (IsDistinct-tail (eq_by_cmp order) q.0 (keys_of (ps ++ (p ∷ qs))) distinct) i)
      where
        symmetric : (k l : K) → eq_by_cmp order k l ≡ eq_by_cmp order l k
        symmetric k l = (eq_by_cmp_equiv total).symm k l

        apart_from : (k : K) (ps : List (K × V)) (p : K × V) (qs : List (K × V))
            → AllByRecursion (λ j. eq_by_cmp order k j ≡ false) (keys_of (ps ++ (p ∷ qs))) → eq_by_cmp order k p.0 ≡ false
        apart_from k [] p qs apart = apart.0
        apart_from k (q ∷ ps) p qs apart = apart_from k ps p qs apart.1

    pub put_behind : (ps es : List (K × V)) → HasDistinctKeys order (ps ++ es) → put_all order ps es ≡ ps ++ es
    put_behind ps [] distinct = sym (append-nil ps)
    put_behind ps (e ∷ es) distinct =
        let moved = append_assoc ps (e ∷ []) es in
        ap (λ all. put_all order all es) (put_last order ps e.0 e.1 (absent_before ps e es distinct))
        ∙ put_behind (ps ++ (e ∷ [])) es (subst (HasDistinctKeys order) (sym moved) distinct)
        ∙ moved

    pub put_as_given : (es : List (K × V)) → HasDistinctKeys order es → put_all order [] es ≡ es
    put_as_given es distinct = put_behind [] es distinct
