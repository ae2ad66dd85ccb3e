-- The pairs of a map of names, once they are sorted, are the entries of its state.
use Rattle.std.specs.Prelude.{◌≡◌, ℕ, ◌<◌, ◌+◌, Bool, true, false, List, [], ◌∷◌, map, length, get_or, String, refl}
use Rattle.std.proofs.Common.{sym, ◌∙◌, ap, subst, arith}
use Rattle.std.proofs.lemmas.List.{get_or-map, length-map}
use Rattle.std.proofs.lemmas.List.Sorted.{Contains-permutation, IsPermutation-map, IsPermutation-sym}
use Rattle.std.proofs.lemmas.Map.Keys.{IsDistinct-IsPermutation, apart_from_distinct, sorted_from_all_adjacent}
use Rattle.std.proofs.lemmas.Map.Text.{is_eq-slice_cmp}
use Rattle.std.specs.Borrow.{Bor}
use Rattle.std.specs.BTreeMap.{insert_entry}
use Rattle.std.specs.Cmp.{eq_by_cmp_equiv}
use Rattle.std.specs.Cmp.Lexicographic.{slice_cmp, nat_list_cmp_total}
use Rattle.std.specs.FinMap.{entries, entries-insert, from_entries}
use Rattle.std.specs.FinMap.Entries.{by_order, put}
use Rattle.std.specs.List.{AllByRecursion, Contains, IsDistinct}
use Rattle.std.specs.List.Sorted.{IsPermutation, IsSortedBy, IsStrictlySortedBy}
use Rattle.std.specs.Map.{keys_of}
use Rattle.std.specs.Ordering.{nat_cmp, eq_by_cmp, is_eq, is_lt, match_ordering, ordering_reverse}
use Rattle.std.specs.declared.cmp.Ordering.{Ordering}
use Rattle.std.specs.declared.cmp.Ordering.TheVariants.{Less, Equal, Greater}
use Rattle.std.specs.String.{string_bytes, string_eq}
use Rattle.tera_meaning.proofs.ExtendLaws.{entries_of_rising}
use Rattle.tera_meaning.proofs.UniqueLaws.{only_rising}
use Rattle.tera_meaning.specs.Form.{Form}
use Rattle.tera_meaning.specs.Pairs.{HasDistinctKeys, Rises, rising}
use Rattle.tera_context.specs.Context.{lent_entries, named, state_of}

-- ---- what is sorted and distinct rises

neither : (r s : Ordering) → s ≡ ordering_reverse r → is_lt s ≡ false → is_eq r ≡ false → r ≡ Less
neither Less s e up apart = refl
neither Equal s e up apart = cc
neither Greater s e up apart = cc

rises : {X : Type 0} (key : X → List ℕ) (xs : List X) → IsSortedBy (λ x y. is_lt ((slice_cmp nat_cmp) (key x) (key y))) xs
    → IsDistinct (eq_by_cmp (slice_cmp nat_cmp)) (map key xs) → IsStrictlySortedBy (slice_cmp nat_cmp) (map key xs)
unfolding IsStrictlySortedBy
rises key [] up apart = tt
rises key (x ∷ xs) up apart = sorted_from_all_adjacent nat_list_cmp_total (map key (x ∷ xs)) (key x) (λ k within.
    let long = length-map (x ∷ xs) key in
    let one = get_or-map key (x ∷ xs) k x (key x) (omega (arith, within, long)) in
    let next = get_or-map key (x ∷ xs) (k + 1) x (key x) (omega (arith, within, long)) in
    let a = get_or (map key (x ∷ xs)) k (key x) in
    let b = get_or (map key (x ∷ xs)) (k + 1) (key x) in
    neither ((slice_cmp nat_cmp) a b) ((slice_cmp nat_cmp) b a) (nat_list_cmp_total.antisymm b a)
    (ap is_lt (λ i. (slice_cmp nat_cmp) (next i) (one i)) ∙ up k x (omega arith) (omega (arith, within, long)))
    (apart_from_distinct (eq_by_cmp (slice_cmp nat_cmp)) (map key (x ∷ xs)) k (k + 1) (key x) apart (omega arith) within))

-- ---- the entries of a state

put_is : (k : List ℕ) (v : Form) (es : List (List ℕ × Form)) → put (slice_cmp nat_cmp) k v es ≡ insert_entry (slice_cmp nat_cmp) es k v
put_is k v [] = refl
put_is k v (e ∷ es) = elim ((slice_cmp nat_cmp) k e.0) as (λ r. by_order r ((k, v) ∷ e ∷ es) ((e.0, v) ∷ es) (e ∷ put (slice_cmp nat_cmp) k v es)
    ≡ match_ordering r ((k, v) ∷ e ∷ es) ((e.0, v) ∷ es) (e ∷ insert_entry (slice_cmp nat_cmp) es k v)) [
      | Less ↦ refl
      | Equal ↦ refl
      | Greater ↦ ap (λ fs. e ∷ fs) (put_is k v es)
    ]

entries_rise : (es : List (List ℕ × Form)) → entries (from_entries {R = slice_cmp nat_cmp} es) ≡ rising (slice_cmp nat_cmp) es
entries_rise [] = entries_of_rising [] tt
entries_rise (e ∷ es) =
    entries-insert nat_list_cmp_total (from_entries es) e.0 e.1
    ∙ put_is e.0 e.1 (entries (from_entries {R = slice_cmp nat_cmp} es))
    ∙ ap (λ fs. insert_entry (slice_cmp nat_cmp) fs e.0 e.1) (entries_rise es)

-- ---- names

apart_from : {A : Type 0} (p : String A × Form) (ps : List (String A × Form)) → AllByRecursion (λ k. string_eq p.0 k ≡ false) (keys_of ps)
    → AllByRecursion (λ k. eq_by_cmp (slice_cmp nat_cmp) (string_bytes p.0) k ≡ false) (keys_of (named ps))
apart_from p [] h = tt
apart_from p (q ∷ qs) h = (is_eq-slice_cmp (string_bytes p.0) (string_bytes q.0) ∙ h.0, apart_from p qs h.1)

pub names_apart : {A : Type 0} (ps : List (String A × Form)) → IsDistinct string_eq (keys_of ps) → HasDistinctKeys (slice_cmp nat_cmp) (named ps)
unfolding IsDistinct
names_apart [] h = tt
names_apart (p ∷ ps) h = (apart_from p ps h.0, names_apart ps h.1)

names_of : (es : List (Bor (List ℕ) × Bor Form)) → map (λ e. e.0.now) es ≡ keys_of (lent_entries es)
names_of [] = refl
names_of (e ∷ es) = ap (λ names. e.0.now ∷ names) (names_of es)

-- what the pairs are once they are sorted by their names
pub sorted_entries : {A : Type 0} (ps : List (String A × Form)) (es fs : List (Bor (List ℕ) × Bor Form))
    → HasDistinctKeys (slice_cmp nat_cmp) (lent_entries es) → lent_entries es ≡ named ps → IsPermutation es fs
    → IsSortedBy (λ e f. is_lt ((slice_cmp nat_cmp) e.0.now f.0.now)) fs → lent_entries fs ≡ entries (state_of ps)
sorted_entries ps es fs apart is moved up =
    let turned = IsPermutation-map (λ e. (e.0.now, e.1.now)) es fs moved in
    let names = IsPermutation-map (λ e. e.0) (lent_entries es) (lent_entries fs) turned in
    let apart_too : HasDistinctKeys (slice_cmp nat_cmp) (lent_entries fs) = IsDistinct-IsPermutation (eq_by_cmp (slice_cmp nat_cmp))
    (eq_by_cmp_equiv nat_list_cmp_total).symm (keys_of (lent_entries es)) (keys_of (lent_entries fs)) names apart in
    let rising_names : Rises (slice_cmp nat_cmp) (lent_entries fs) = subst (IsStrictlySortedBy (slice_cmp nat_cmp)) (names_of fs)
    (rises (λ e. e.0.now) fs up (subst (IsDistinct (eq_by_cmp (slice_cmp nat_cmp))) (sym (names_of fs)) apart_too)) in
    only_rising (slice_cmp nat_cmp) nat_list_cmp_total (lent_entries es) (lent_entries fs) apart rising_names (λ e. (
      Contains-permutation (lent_entries fs) (lent_entries es) e (IsPermutation-sym (lent_entries es) (lent_entries fs) turned),
      Contains-permutation (lent_entries es) (lent_entries fs) e turned,
    ))
    ∙ ap (rising (slice_cmp nat_cmp)) is
    ∙ sym (entries_rise (named ps))
