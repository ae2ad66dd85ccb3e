-- The entries of a map in the order of its keys, and their pairs.
use Rattle.std.specs.Prelude.{◌≡◌, ◌<◌, List, [], ◌∷◌, ◌++◌, length, reverse, refl, Result, Ok, Err, IfErr}
use Rattle.std.specs.BTreeMap.{insert_entry}
use Rattle.std.specs.List.{AllZip}
use Rattle.std.specs.List.Sorted.{IsStrictlySortedBy}
use Rattle.std.specs.Map.{keys_of}
use Rattle.std.specs.Ordering.{on, match_ordering}
use Rattle.std.specs.declared.cmp.Ordering.TheVariants.{Less, Equal, Greater}
use Rattle.std.proofs.Common.{sym, ◌∙◌, ap, inl, subst, arith}
use Rattle.std.proofs.lemmas.List.{append-nil, map-append, length-map}
use Rattle.std.proofs.lemmas.List.Sums.{fold_push}
use Rattle.std.proofs.lemmas.Map.Keys.{IsDistinct-from_sorted}
use Rattle.tera_conversions.proofs.EntryLemmas.{put_as_given}
use Rattle.tera_conversions.specs.Given.{FirstGives, GivesPair, LaterRefuse, PutsRising}
use Rattle.tera_conversions.specs.inner.Forms.{forms_of}
use Rattle.tera_meaning.proofs.PutLaws.{distinct_read}
use Rattle.tera_meaning.specs.Form.{Form}
use Rattle.tera_meaning.specs.KeyMeaning.{KeyForm, key_order}
use Rattle.tera_meaning.specs.Pairs.{key_form_order, pairs_of, put, put_all}
use Rattle.tera_report.specs.Errors.{IsOutOfMemory}
use Rattle.tera_report.specs.declared.errors.Error.{Error}
use Rattle.tera_values.specs.Key.{key_form, meaning_of_key}
use Rattle.tera_values.specs.declared.key.Key.{Key}

-- an entry goes to the place of its pair
pub forms_placed : (k : Key) (v : Form) (es : List (Key × Form))
    → forms_of (insert_entry (on meaning_of_key key_order) es k v) ≡ insert_entry key_form_order (forms_of es) (key_form k) v
forms_placed k v [] = refl
forms_placed k v (e ∷ es) =
    elim (key_form_order (key_form k) (key_form e.0)) as (λ r.
    forms_of (match_ordering r ((k, v) ∷ e ∷ es) ((e.0, v) ∷ es) (e ∷ insert_entry (on meaning_of_key key_order) es k v))
    ≡ match_ordering r ((key_form k, v) ∷ forms_of (e ∷ es)) ((key_form e.0, v) ∷ forms_of es)
    ((key_form e.0, e.1) ∷ insert_entry key_form_order (forms_of es) (key_form k) v)) [
      | Less ↦ refl
      | Equal ↦ refl
      | Greater ↦ ap (λ ps. (key_form e.0, e.1) ∷ ps) (forms_placed k v es)
    ]

-- one more entry's pair is put
pub forms_on : (before : List (Key × Form)) (made new : List (KeyForm × Form)) (e : Key × Form)
    → made ≡ put_all key_form_order [] (forms_of before) → new ≡ put key_form_order made (key_form e.0) e.1
    → new ≡ put_all key_form_order [] (forms_of (before ++ (e ∷ [])))
forms_on before made new e so_far is_put =
    is_put ∙ ap (λ ps. put key_form_order ps (key_form e.0) e.1) so_far
    ∙ sym (fold_push (λ ps q. put key_form_order ps q.0 q.1) [] (forms_of before) (key_form e.0, e.1))
    ∙ ap (λ ps. put_all key_form_order [] ps) (sym (map-append (λ q. (key_form q.0, q.1)) before (e ∷ [])))

-- the pairs of all entries, put one after another, stand as the entries do
pub forms_in_order : (es before rest : List (Key × Form)) (made : List (KeyForm × Form))
    → IsStrictlySortedBy (on meaning_of_key key_order) (keys_of es) → before ++ rest ≡ es → rest ≡ []
    → made ≡ put_all key_form_order [] (forms_of before) → made ≡ forms_of es
forms_in_order es before rest made rises whole none so_far =
    let all : before ≡ es = sym (append-nil before) ∙ ap (λ r. before ++ r) (sym none) ∙ whole in
    so_far ∙ ap (λ xs. put_all key_form_order [] (forms_of xs)) all
    ∙ put_as_given (forms_of es)
    (distinct_read key_form (λ v. v) key_form_order es (IsDistinct-from_sorted (on meaning_of_key key_order) (keys_of es) rises))

-- there is no memory for the map of what some entries gave
module _ {K X : Type 0} (key : K → KeyForm → Type 0) (gives : X → Form → Type 0) where
  some_entry : (entries rest : List (K × X)) (given : List (KeyForm × Form)) → AllZip (GivesPair key gives) entries given
      → 0 < length (pairs_of (reverse given)) → FirstGives (GivesPair key gives) (entries ++ rest)
  some_entry [] rest [] told some = elim some [ ]
  some_entry [] rest (p ∷ given) told some = elim told [ ]
  some_entry (e ∷ entries) rest [] told some = elim told [ ]
  some_entry (e ∷ entries) rest (p ∷ given) told some = (p, told.0)

  pub no_memory : {Z : Type 0} (refuses : K × X → Error → Type 0) (all before rest : List (K × X)) (es : List (Key × Form)) (r : Result Z Error)
      → before ++ rest ≡ all
      → PutsRising key gives before (forms_of es) → IfErr r (λ e. (0 < length es) × IsOutOfMemory e)
      → IfErr r (LaterRefuse (GivesPair key gives) refuses all)
  no_memory refuses all before rest es (Ok z) whole puts told = tt
  no_memory refuses all before rest es (Err e) whole puts told =
      let as_many : length (forms_of es) ≡ length es = length-map es (λ q. (key_form q.0, q.1)) in
      let some : 0 < length (pairs_of (reverse puts.0)) =
      subst (λ (ps : List (KeyForm × Form)). 0 < length ps) puts.2 (omega (arith, told.0)) in
      inl (subst (FirstGives (GivesPair key gives)) whole (some_entry before rest puts.0 puts.1 some), told.1)
