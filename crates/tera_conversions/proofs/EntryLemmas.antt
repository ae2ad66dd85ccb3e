-- Entries whose keys are apart give pairs whose keys are, and such pairs are put as they stand.
use Rattle.std.specs.Prelude.{◌≡◌, Bool, true, false, cond, List, [], ◌∷◌, ◌++◌, reverse, refl, None, Some}
use Rattle.std.specs.Cmp.{eq_by_cmp_equiv}
use Rattle.std.specs.List.{AllZip, AllByRecursion, IsDistinct}
use Rattle.std.specs.List.Sorted.{IsPermutation}
use Rattle.std.specs.Map.{keys_of}
use Rattle.std.specs.Ordering.{eq_by_cmp}
use Rattle.std.proofs.Common.{sym, ◌∙◌, ap, subst}
use Rattle.std.proofs.lemmas.List.{append-nil, append_assoc}
use Rattle.std.proofs.lemmas.List.Sorted.{IsPermutation-map, IsPermutation-reverse}
use Rattle.std.proofs.lemmas.Map.Keys.{IsDistinct-IsPermutation, IsDistinct-head, IsDistinct-tail, IsDistinct-cons}
use Rattle.tera_conversions.specs.Given.{GivesPair}
use Rattle.tera_meaning.proofs.PutLaws.{put_last}
use Rattle.tera_meaning.proofs.UniqueLaws.{rising_permutes, rising_permuted}
use Rattle.tera_meaning.specs.Form.{Form}
use Rattle.tera_meaning.proofs.KeyLaws.{form_total, key_is}
use Rattle.tera_meaning.specs.KeyMeaning.{KeyForm, key_meaning}
use Rattle.tera_meaning.specs.Pairs.{HasDistinctKeys, key_form_order, pairs_of, put_all, value_at}

-- ---- pairs that are put

-- the key of a pair ties with none before it
ties_not : (k : KeyForm) (ps : List (KeyForm × Form)) (p : KeyForm × Form) (qs : List (KeyForm × Form))
    → AllByRecursion (λ j. eq_by_cmp key_form_order k j ≡ false) (keys_of (ps ++ (p ∷ qs))) → eq_by_cmp key_form_order k p.0 ≡ false
ties_not k [] p qs apart = apart.0
ties_not k (q ∷ ps) p qs apart = ties_not k ps p qs apart.1

absent_before : (ps : List (KeyForm × Form)) (p : KeyForm × Form) (qs : List (KeyForm × Form)) → HasDistinctKeys key_form_order (ps ++ (p ∷ qs))
    → value_at key_form_order ps p.0 ≡ None
absent_before [] p qs distinct = refl
absent_before (q ∷ ps) p qs distinct =
    ap (λ ties. cond ties (Some q.1) (value_at key_form_order ps p.0)) ((eq_by_cmp_equiv form_total).symm p.0 q.0
    ∙ ties_not q.0 ps p qs (IsDistinct-head (eq_by_cmp key_form_order) q.0 (keys_of (ps ++ (p ∷ qs))) distinct))
    ∙ absent_before ps p qs (IsDistinct-tail (eq_by_cmp key_form_order) q.0 (keys_of (ps ++ (p ∷ qs))) distinct)

put_behind : (ps qs : List (KeyForm × Form)) → HasDistinctKeys key_form_order (ps ++ qs) → put_all key_form_order ps qs ≡ ps ++ qs
put_behind ps [] distinct = sym (append-nil ps)
put_behind ps (q ∷ qs) distinct =
    let moved = append_assoc ps (q ∷ []) qs in
    ap (λ all. put_all key_form_order all qs) (put_last key_form_order ps q.0 q.1 (absent_before ps q qs distinct))
    ∙ put_behind (ps ++ (q ∷ [])) qs (subst (HasDistinctKeys key_form_order) (sym moved) distinct)
    ∙ moved

-- pairs whose keys are apart stand as they were put
pub put_as_given : (ps : List (KeyForm × Form)) → HasDistinctKeys key_form_order ps → put_all key_form_order [] ps ≡ ps
put_as_given ps distinct = put_behind [] ps distinct

-- ---- pairs that are given

module _ {K X : Type 0} (eq : K → K → Bool) (key : K → KeyForm → Type 0) (gives : X → Form → Type 0)
    (apart : (a b : K) (j k : KeyForm) → key a j → key b k → key_meaning j ≡ key_meaning k → eq a b ≡ true) where
  not_both : (b : Bool) → b ≡ true → b ≡ false → ⊥
  not_both b is is_not = cc

  untied : (a b : K) (j k : KeyForm) → key a j → key b k → eq a b ≡ false → eq_by_cmp key_form_order j k ≡ false
  untied a b j k is_j is_k differ =
      elim (eq_by_cmp key_form_order j k) as (λ t. eq_by_cmp key_form_order j k ≡ t → t ≡ false) [
        | true ↦ λ ties. absurd (not_both (eq a b) (apart a b j k is_j is_k ((key_is (key_meaning j) (key_meaning k)).0 ties)) differ)
        | false ↦ λ ties. refl
      ] refl

  none_tie : (a : K) (j : KeyForm) (entries : List (K × X)) (given : List (KeyForm × Form)) → key a j
      → AllZip (GivesPair key gives) entries given → AllByRecursion (λ b. eq a b ≡ false) (keys_of entries)
      → AllByRecursion (λ k. eq_by_cmp key_form_order j k ≡ false) (keys_of given)
  none_tie a j [] [] is told differ = tt
  none_tie a j [] (p ∷ given) is told differ = elim told [ ]
  none_tie a j (e ∷ entries) [] is told differ = elim told [ ]
  none_tie a j (e ∷ entries) (p ∷ given) is told differ =
      (untied a e.0 j p.0 is told.0.0 differ.0, none_tie a j entries given is told.1 differ.1)

  distinct_given : (entries : List (K × X)) (given : List (KeyForm × Form)) → IsDistinct eq (keys_of entries)
      → AllZip (GivesPair key gives) entries given → HasDistinctKeys key_form_order given
  unfolding IsDistinct
  distinct_given [] [] distinct told = tt
  distinct_given [] (p ∷ given) distinct told = elim told [ ]
  distinct_given (e ∷ entries) [] distinct told = elim told [ ]
  distinct_given (e ∷ entries) (p ∷ given) distinct told =
      IsDistinct-cons (eq_by_cmp key_form_order) p.0 (keys_of given)
      (none_tie e.0 p.0 entries given told.0.0 told.1 (IsDistinct-head eq e.0 (keys_of entries) distinct))
      (distinct_given entries given (IsDistinct-tail eq e.0 (keys_of entries) distinct) told.1)

  -- the pairs of such entries are all there
  pub all_there : (entries : List (K × X)) (given : List (KeyForm × Form)) → IsDistinct eq (keys_of entries)
      → AllZip (GivesPair key gives) entries given → IsPermutation given (pairs_of (reverse given))
  all_there entries given distinct told =
      let apart_given = distinct_given entries given distinct told in
      let turned = IsDistinct-IsPermutation (eq_by_cmp key_form_order) (eq_by_cmp_equiv form_total).symm (keys_of given) (keys_of (reverse given))
      (IsPermutation-map (λ e. e.0) given (reverse given) (IsPermutation-reverse given)) apart_given in
      subst (IsPermutation given) (rising_permuted key_form_order form_total given (reverse given) apart_given turned (IsPermutation-reverse given))
      (rising_permutes key_form_order form_total given apart_given)

  -- and put one after another they stand in the order of the entries
  pub in_their_order : (entries : List (K × X)) (given : List (KeyForm × Form)) → IsDistinct eq (keys_of entries)
      → AllZip (GivesPair key gives) entries given → put_all key_form_order [] given ≡ given
  in_their_order entries given distinct told = put_as_given given (distinct_given entries given distinct told)
