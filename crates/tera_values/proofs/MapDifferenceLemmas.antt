-- The least key at which two maps differ, met on a walk over each.
use Rattle.std.specs.Prelude.{◌≡◌, ◌≢◌, ◌≤◌, ◌||◌, Bool, true, false, cond, suc, List, [], ◌∷◌, length, Option, None, Some, IsSome, IfSome, if◌then◌else◌, refl}
use Rattle.std.proofs.Common.{sym, ◌∙◌, ap, subst, arith, ◌⊎◌, inl, inr}
use Rattle.std.proofs.lemmas.Map.Steps.{length-le_from_keys}
use Rattle.std.specs.Cmp.{tied_itself, eq_by_cmp_equiv}
use Rattle.std.specs.List.{AllByRecursion, IsDistinct, list_any}
use Rattle.std.specs.Map.{keys_of}
use Rattle.std.specs.Option.{is_some, option_eq, option_map}
use Rattle.std.specs.Ordering.{is_lt, is_eq, eq_by_cmp}
use Rattle.std.specs.declared.cmp.Ordering.{Ordering}
use Rattle.std.specs.declared.cmp.Ordering.TheVariants.{Less, Equal, Greater}
use Rattle.tera_meaning.specs.Form.{Form}
use Rattle.tera_meaning.specs.KeyMeaning.{KeyForm}
use Rattle.tera_meaning.specs.Pairs.{key_form_order, value_at, goes_on, agree_at, HasDistinctKeys, AgreeEverywhere, IsLeastDifference, by_values, order_at}
use Rattle.tera_meaning.proofs.EntryLaws.{forms_decide, forms_tie}
use Rattle.tera_meaning.proofs.KeyLaws.{form_total}
use Rattle.tera_values.specs.inner.MapDifference.{form_values, by_order, differing, lacking, is_before, difference_at, met, least_met, maps_order, IsDifference}
use Rattle.tera_values.specs.declared.map_difference.Difference.{Difference}
use Rattle.tera_values.specs.declared.map_difference.Difference.TheVariants.{Values, LeftAlone, RightAlone}

abbrev In : {A : Type 0} → A → List A → Type 0
In x [] = ⊥
In x (y ∷ ys) = (x ≡ y) ⊎ In x ys

pub none_found : {A B : Type 0} (f : A → B) (found : Option A) → is_some found ≡ false → option_map f found ≡ None
none_found f None e = refl
none_found f (Some d) e = cc

some_same : {A : Type 0} (x y : A) → Some x ≡ Some y → x ≡ y
some_same x y e = cc

is_less : (o : Ordering) → is_lt o ≡ true → o ≡ Less
is_less Less p = refl
is_less Equal p = cc
is_less Greater p = cc

is_equal : (o : Ordering) → is_eq o ≡ true → o ≡ Equal
is_equal Equal p = refl
is_equal Less p = cc
is_equal Greater p = cc

-- how what the first map holds differs from what the second does
abbrev pub from_left : List (KeyForm × Form) → KeyForm × Form → Option Difference
from_left qs e = differing (Some e.1) (value_at key_form_order qs e.0)

pub met_below : (least : Option (KeyForm × Difference)) (k : KeyForm) (how : Option Difference) → is_before key_form_order k least ≡ true → met least k how
    ≡ difference_at how k least
met_below least k how e = ap (λ b. cond b (difference_at how k least) least) e

pub met_not_below : (least : Option (KeyForm × Difference)) (k : KeyForm) (how : Option Difference) → is_before key_form_order k least ≡ false
    → met least k how ≡ least
met_not_below least k how e = ap (λ b. cond b (difference_at how k least) least) e

-- the difference is at the key or at a lesser one
abbrev pub Reaches : Option (KeyForm × Difference) → KeyForm → Type 0
Reaches None k = ⊥
Reaches (Some d) k = key_form_order k d.0 ≢ Less

not_less : (r : Ordering) → is_lt r ≡ false → r ≢ Less
not_less Less e h = cc
not_less Equal e h = cc
not_less Greater e h = cc

equal_not_less : (r : Ordering) → r ≡ Equal → r ≢ Less
equal_not_less r e h = cc

-- what reaches a key reaches those that tie with it
reaches_tied : (found : Option (KeyForm × Difference)) (k l : KeyForm) → key_form_order l k ≡ Equal → Reaches found k → Reaches found l
reaches_tied None k l t r = r
reaches_tied (Some d) k l t r = λ less. r (sym (form_total.congr l k d.0 t) ∙ less)

found_keeps : (how : Option Difference) (k : KeyForm) (least : Option (KeyForm × Difference)) (l : KeyForm) → is_before key_form_order k least ≡ true
    → Reaches least l → Reaches (difference_at how k least) l
found_keeps None k least l e r = r
found_keeps (Some h) k None l e r = absurd r
found_keeps (Some h) k (Some d) l e r = λ less. r (form_total.trans l k d.0 less (is_less _ e))

met_keeps : (least : Option (KeyForm × Difference)) (k : KeyForm) (how : Option Difference) (l : KeyForm) → Reaches least l → Reaches (met least k how) l
met_keeps least k how l r =
    elim (is_before key_form_order k least) as (λ b. is_before key_form_order k least ≡ b → Reaches (cond b (difference_at how k least) least) l) [
      | true ↦ λ e. found_keeps how k least l e r
      | false ↦ λ e. r
    ] refl

least_reaches : (least : Option (KeyForm × Difference)) (k : KeyForm) → is_before key_form_order k least ≡ false → Reaches least k
least_reaches None k e = cc
least_reaches (Some d) k e = not_less _ e

met_reaches : (least : Option (KeyForm × Difference)) (k : KeyForm) (how : Option Difference) → (how ≡ None) ⊎ Reaches (met least k how) k
met_reaches least k None = inl refl
met_reaches least k (Some h) =
    inr (elim (is_before key_form_order k least) as (λ b. is_before key_form_order k least ≡ b → Reaches (cond b (Some (k, h)) least) k) [
      | true ↦ λ e. equal_not_less _ (tied_itself form_total k)
      | false ↦ λ e. least_reaches least k e
    ] refl)

found_has : (P : KeyForm × Difference → Type 0) (how : Option Difference) (k : KeyForm) (least : Option (KeyForm × Difference))
    → IfSome least P → IfSome how (λ h. P (k, h)) → IfSome (difference_at how k least) P
found_has P None k least p q = p
found_has P (Some h) k least p q = q

met_has : (P : KeyForm × Difference → Type 0) (least : Option (KeyForm × Difference)) (k : KeyForm) (how : Option Difference)
    → IfSome least P → IfSome how (λ h. P (k, h)) → IfSome (met least k how) P
met_has P least k how p q = elim (is_before key_form_order k least) as (λ b. IfSome (cond b (difference_at how k least) least) P)
    [ true ↦ found_has P how k least p q | false ↦ p ]

module _ {V : Type 0} (differs : KeyForm × V → Option Difference) where
  pub walk_keeps : (least : Option (KeyForm × Difference)) (es : List (KeyForm × V)) (l : KeyForm) → Reaches least l → Reaches (least_met differs least es) l
  walk_keeps least [] l r = r
  walk_keeps least (e ∷ es) l r = walk_keeps (met least e.0 (differs e)) es l (met_keeps least e.0 (differs e) l r)

  -- at each entry there is no difference, or the walk reaches it
  pub walk_reaches : (least : Option (KeyForm × Difference)) (es : List (KeyForm × V)) (e : KeyForm × V) → In e es
      → (differs e ≡ None) ⊎ Reaches (least_met differs least es) e.0
  walk_reaches least [] e i = absurd i
  walk_reaches least (f ∷ fs) e i = elim i as (λ _. (differs e ≡ None) ⊎ Reaches (least_met differs least (f ∷ fs)) e.0) [
    | inl same ↦ subst (λ x. (differs x ≡ None) ⊎ Reaches (least_met differs least (f ∷ fs)) x.0) (sym same)
        (elim (met_reaches least f.0 (differs f)) as (λ _. (differs f ≡ None) ⊎ Reaches (least_met differs least (f ∷ fs)) f.0) [
          | inl none ↦ inl none
          | inr r ↦ inr (walk_keeps (met least f.0 (differs f)) fs f.0 r)
        ])
    | inr later ↦ walk_reaches (met least f.0 (differs f)) fs e later
  ]

  -- what holds of each difference holds of the least
  pub walk_has : (P : KeyForm × Difference → Type 0) (least : Option (KeyForm × Difference)) (es : List (KeyForm × V)) → IfSome least P
      → ((e : KeyForm × V) → In e es → IfSome (differs e) (λ h. P (e.0, h))) → IfSome (least_met differs least es) P
  walk_has P least [] p q = p
  walk_has P least (e ∷ es) p q = walk_has P (met least e.0 (differs e)) es (met_has P least e.0 (differs e) p (q e (inl refl))) (λ f i. q f (inr i))

tie_none : (r : Ordering) → by_order r ≡ None → is_eq r ≡ true
tie_none Less e = cc
tie_none Equal e = refl
tie_none Greater e = cc

tie_some : (r : Ordering) (h : Difference) → by_order r ≡ Some h → is_eq r ≡ false
tie_some Less h e = refl
tie_some Equal h e = cc
tie_some Greater h e = refl

agrees : (a b : Option Form) → differing a b ≡ None → option_eq (eq_by_cmp form_values) a b ≡ true
agrees None None e = refl
agrees None (Some w) e = cc
agrees (Some v) None e = cc
agrees (Some v) (Some w) e = tie_none (form_values v w) e

disagrees : (a b : Option Form) (h : Difference) → differing a b ≡ Some h → option_eq (eq_by_cmp form_values) a b ≡ false
disagrees None None h e = cc
disagrees None (Some w) h e = refl
disagrees (Some v) None h e = refl
disagrees (Some v) (Some w) h e = tie_some (form_values v w) h e

-- an entry that a look-up finds
found_entry : {V : Type 0} (es : List (KeyForm × V)) (k : KeyForm) (v : V) → value_at key_form_order es k ≡ Some v
    → (e : KeyForm × V) × In e es × (key_form_order k e.0 ≡ Equal) × (e.1 ≡ v)
found_entry [] k v h = cc
found_entry (e ∷ es) k v h =
    elim (eq_by_cmp key_form_order k e.0) as (λ b. eq_by_cmp key_form_order k e.0 ≡ b → cond b (Some e.1) (value_at key_form_order es k) ≡ Some v
    → (f : KeyForm × _) × In f (e ∷ es) × (key_form_order k f.0 ≡ Equal) × (f.1 ≡ v)) [
      | true ↦ λ t is. (e, inl refl, is_equal _ t, some_same e.1 v is)
      | false ↦ λ t is. let (f, i, tie, same) = found_entry es k v is in (f, inr i, tie, same)
    ] refl h

value_tied : {V : Type 0} (es : List (KeyForm × V)) (k l : KeyForm) → key_form_order k l ≡ Equal → value_at key_form_order es k ≡ value_at key_form_order es l
value_tied [] k l t = refl
value_tied (e ∷ es) k l t = λ i. cond (is_eq (form_total.congr k l e.0 t i)) (Some e.1) (value_tied es k l t i)

-- the key of a later entry differs from that of an earlier one
differs_in : {V : Type 0} (k : KeyForm) (es : List (KeyForm × V)) (e : KeyForm × V) → AllByRecursion (λ y. eq_by_cmp key_form_order k y ≡ false) (keys_of es)
    → In e es → eq_by_cmp key_form_order k e.0 ≡ false
differs_in k [] e h i = absurd i
differs_in k (f ∷ fs) e h i = elim i as (λ _. eq_by_cmp key_form_order k e.0 ≡ false) [
  | inl same ↦ ap (λ x. eq_by_cmp key_form_order k x.0) same ∙ h.0
  | inr later ↦ differs_in k fs e h.1 later
]

-- an entry is found at its key
first_found : {V : Type 0} (es : List (KeyForm × V)) → HasDistinctKeys key_form_order es → (e : KeyForm × V) → In e es → value_at key_form_order es e.0
    ≡ Some e.1
unfolding IsDistinct
first_found [] a e i = absurd i
first_found (f ∷ fs) a e i = elim i as (λ _. value_at key_form_order (f ∷ fs) e.0 ≡ Some e.1) [
  | inl same ↦ subst (λ x. value_at key_form_order (f ∷ fs) x.0 ≡ Some x.1) (sym same) (ap (λ r. cond (is_eq r) (Some f.1) (value_at key_form_order fs f.0))
      (tied_itself form_total f.0))
  | inr later ↦ ap (λ b. cond b (Some f.1) (value_at key_form_order fs e.0)) ((eq_by_cmp_equiv form_total).symm e.0 f.0 ∙ differs_in f.0 fs e a.0 later)
      ∙ first_found fs a.1 e later
]

if_some : {A : Type 0} (o : Option A) (Q : A → Type 0) → ((h : A) → o ≡ Some h → Q h) → IfSome o Q
if_some None Q f = tt
if_some (Some h) Q f = f h refl

not_alone_some : (v : Form) (y : Option Form) → differing (Some v) y ≡ None → IsSome y
not_alone_some v None e = cc
not_alone_some v (Some w) e = refl

-- an entry whose key passes
any_entry : {V : Type 0} (q : KeyForm) (es : List (KeyForm × V)) → list_any (eq_by_cmp key_form_order q) (keys_of es) ≡ true
    → (e : KeyForm × V) × In e es × (key_form_order q e.0 ≡ Equal)
any_entry q [] any = cc
any_entry {V} q (e ∷ es) any =
    elim (eq_by_cmp key_form_order q e.0) as (λ b. eq_by_cmp key_form_order q e.0 ≡ b → (b || list_any (eq_by_cmp key_form_order q) (keys_of es)) ≡ true
    → (f : KeyForm × V) × In f (e ∷ es) × (key_form_order q f.0 ≡ Equal)) [
      | true ↦ λ tie _. (e, inl refl, is_equal _ tie)
      | false ↦ λ tie later. let (f, i, same) = any_entry q es later in (f, inr i, same)
    ] refl any

-- no key ties where a look-up finds nothing
none_tie : {V : Type 0} (q : KeyForm) (es : List (KeyForm × V)) → value_at key_form_order es q ≡ None
    → AllByRecursion (λ y. eq_by_cmp key_form_order q y ≡ false) (keys_of es)
none_tie q [] absent = tt
none_tie {V} q (e ∷ es) absent =
    elim (eq_by_cmp key_form_order q e.0) as (λ b. eq_by_cmp key_form_order q e.0 ≡ b → cond b (Some e.1) (value_at key_form_order es q) ≡ None
    → (eq_by_cmp key_form_order q e.0 ≡ false) × AllByRecursion (λ y. eq_by_cmp key_form_order q y ≡ false) (keys_of es)) [
      | true ↦ λ tie some. cc
      | false ↦ λ tie later. (tie, none_tie q es later)
    ] refl absent

pub length_keys : {V : Type 0} (es : List (KeyForm × V)) → length (keys_of es) ≡ length es
length_keys [] = refl
length_keys (e ∷ es) = ap suc (length_keys es)

-- a walk that meets no difference finds none
none_met : {V : Type 0} (differs : KeyForm × V → Option Difference) (es : List (KeyForm × V)) → ((e : KeyForm × V) → In e es → differs e ≡ None)
    → least_met differs None es ≡ None
none_met differs [] h = refl
none_met differs (e ∷ es) h =
    ap (λ how. least_met differs (met None e.0 how) es) (h e (inl refl)) ∙ none_met differs es (λ f i. h f (inr i))

lacking_none : (x : Option Form) → x ≡ None → lacking x ≢ None
lacking_none None e h = cc
lacking_none (Some v) e h = cc

lacking_is : (x : Option Form) (w : Form) (h : Difference) → lacking x ≡ Some h → differing x (Some w) ≡ Some h
lacking_is None w h e = e
lacking_is (Some v) w h e = cc

module _ (es fs : List (KeyForm × Form)) where
  -- what the walk over the first map meets, and then that over the second
  abbrev pub left_walk : Option (KeyForm × Difference)
  left_walk = least_met (λ e. differing (Some e.1) (value_at key_form_order fs e.0)) None es

  abbrev pub both_walks : Option (KeyForm × Difference)
  both_walks = least_met (λ e. lacking (value_at key_form_order es e.0)) left_walk fs

  reaches_differing : (l : KeyForm) (x y : Option Form) → value_at key_form_order es l ≡ x → value_at key_form_order fs l ≡ y
      → (differing x y ≡ None) ⊎ Reaches both_walks l
  reaches_differing l None None p q = inl refl
  reaches_differing l (Some v) y p q =
      let (e, i, tie, same) = found_entry es l v p in
      let other : value_at key_form_order fs e.0 ≡ y = sym (value_tied fs l e.0 tie) ∙ q in
      elim (walk_reaches (λ d. differing (Some d.1) (value_at key_form_order fs d.0)) None es e i) as (λ _. (differing (Some v) y ≡ None)
      ⊎ Reaches both_walks l) [
        | inl none ↦ inl (sym (λ j. differing (Some (same j)) (other j)) ∙ none)
        | inr r ↦ inr (walk_keeps _ left_walk fs l (reaches_tied left_walk e.0 l tie r))
      ]
  reaches_differing l None (Some w) p q =
      let (f, i, tie, same) = found_entry fs l w q in
      let other : value_at key_form_order es f.0 ≡ None = sym (value_tied es l f.0 tie) ∙ p in
      elim (walk_reaches (λ d. lacking (value_at key_form_order es d.0)) left_walk fs f i) as (λ _. (differing None (Some w) ≡ None)
      ⊎ Reaches both_walks l) [
        | inl none ↦ absurd (lacking_none _ other none)
        | inr r ↦ inr (reaches_tied both_walks f.0 l tie r)
      ]

  agrees_or_reaches : (l : KeyForm) → (agree_at key_form_order form_values es fs l ≡ true) ⊎ Reaches both_walks l
  agrees_or_reaches l = elim (reaches_differing l _ _ refl refl) as (λ _. (agree_at key_form_order form_values es fs l ≡ true)
      ⊎ Reaches both_walks l) [
        | inl none ↦ inl (agrees (value_at key_form_order es l) (value_at key_form_order fs l) none)
        | inr r ↦ inr r
      ]

  abbrev IsDiffering : KeyForm × Difference → Type 0
  IsDiffering d = differing (value_at key_form_order es d.0) (value_at key_form_order fs d.0) ≡ Some d.1

  module _ (a : HasDistinctKeys key_form_order es) (b : HasDistinctKeys key_form_order fs) where
    walks_have : IfSome both_walks IsDiffering
    walks_have = walk_has _ IsDiffering left_walk fs
        (walk_has _ IsDiffering None es tt (λ e i. if_some _ _ (λ h is. ap (λ x. differing x (value_at key_form_order fs e.0)) (first_found es a e i) ∙ is)))
        (λ f i. if_some _ _ (λ h is. ap (differing (value_at key_form_order es f.0)) (first_found fs b f i) ∙ lacking_is _ f.1 h is))

    least_is : (found : Option (KeyForm × Difference)) → ((l : KeyForm) → (agree_at key_form_order form_values es fs l ≡ true)
        ⊎ Reaches found l)
        → IfSome found IsDiffering → IsDifference es fs found
    least_is None r h = λ l. elim (r l) as (λ _. agree_at key_form_order form_values es fs l ≡ true)
        [ inl agree ↦ agree | inr none ↦ absurd none ]
    least_is (Some d) r h = (
      (
        disagrees (value_at key_form_order es d.0) (value_at key_form_order fs d.0) d.1 h,
        λ l less.
            elim (r l) as (λ _. agree_at key_form_order form_values es fs l ≡ true) [ inl agree ↦ agree | inr not ↦ absurd (not less) ],
      ),
      h,
    )

    -- where the first walk meets no difference, the second map has what the first one has
    held_there : left_walk ≡ None → (e : KeyForm × Form) → In e es → IsSome (value_at key_form_order fs e.0)
    held_there none e i =
        let reached = walk_reaches (λ d. differing (Some d.1) (value_at key_form_order fs d.0)) None es e i in
        elim reached as (λ _. IsSome (value_at key_form_order fs e.0)) [
          | inl same ↦ not_alone_some e.1 (value_at key_form_order fs e.0) same
          | inr r ↦ absurd (subst (λ found. Reaches found e.0) none r)
        ]

    found_there : left_walk ≡ None → (f : KeyForm × Form) → In f fs → (q : KeyForm)
        → list_any (eq_by_cmp key_form_order q) (f.0 ∷ keys_of es) ≡ true → IsSome (value_at key_form_order fs q)
    found_there none f i q any =
        elim (eq_by_cmp key_form_order q f.0) as (λ b. eq_by_cmp key_form_order q f.0 ≡ b → (b || list_any (eq_by_cmp key_form_order q) (keys_of es)) ≡ true
        → IsSome (value_at key_form_order fs q)) [
          | true ↦ λ tie _. subst IsSome (sym (first_found fs b f i) ∙ sym (value_tied fs q f.0 (is_equal _ tie))) refl
          | false ↦ λ tie later.
              let (e, j, same) = any_entry q es later in
              subst IsSome (sym (value_tied fs q e.0 same)) (held_there none e j)
        ] refl any

    -- and if there are as many pairs, the first map has what the second one has
    held_here : left_walk ≡ None → length es ≡ length fs → (f : KeyForm × Form) → In f fs → lacking (value_at key_form_order es f.0) ≡ None
    unfolding IsDistinct
    held_here none even f i =
        elim (value_at key_form_order es f.0) as (λ v. value_at key_form_order es f.0 ≡ v → lacking v ≡ None) [
          | None ↦ λ absent.
              let more : suc (length es) ≤ length fs =
              subst (λ n. suc n ≤ length fs) (length_keys es) (length-le_from_keys (eq_by_cmp_equiv form_total) (f.0 ∷ keys_of es) fs
              (none_tie f.0 es absent, a) (found_there none f i)) in
              absurd (omega (arith, more, even))
          | Some v ↦ λ held. refl
        ] refl

    -- two walks meet the least difference
    pub walks_meet_least : IsDifference es fs both_walks
    walks_meet_least = least_is both_walks agrees_or_reaches walks_have

    -- so one walk is enough where it meets no difference and there are as many pairs
    pub one_walk : left_walk ≡ None → length es ≡ length fs → IsDifference es fs None
    one_walk none even =
        subst (IsDifference es fs)
        (ap (λ least. least_met (λ e. lacking (value_at key_form_order es e.0)) least fs) none
        ∙ none_met (λ e. lacking (value_at key_form_order es e.0)) fs (held_here none even))
        walks_meet_least

  -- the least difference decides
  pub ordered_at : (k : KeyForm) → IsLeastDifference key_form_order form_values es fs k → maps_order es fs ≡ order_at key_form_order form_values es fs k
  ordered_at k least = forms_decide es fs k least

  pub all_tie : AgreeEverywhere key_form_order form_values es fs → maps_order es fs ≡ Equal
  all_tie agree = (forms_tie es fs).0 agree

same_values : (r o : Ordering) → by_order r ≡ Some (Values o) → r ≡ o
same_values Less o e = cc
same_values Equal o e = cc
same_values Greater o e = cc

pub values_decide : (x y : Option Form) (g h : Bool) (o : Ordering) → differing x y ≡ Some (Values o) → by_values key_form_order form_values x y g h ≡ o
values_decide None None g h o e = cc
values_decide None (Some w) g h o e = cc
values_decide (Some v) None g h o e = cc
values_decide (Some v) (Some w) g h o e = same_values (form_values v w) o e

not_alone : (r : Ordering) → (by_order r ≢ Some LeftAlone) × (by_order r ≢ Some RightAlone)
not_alone Less = (λ e. cc, λ e. cc)
not_alone Equal = (λ e. cc, λ e. cc)
not_alone Greater = (λ e. cc, λ e. cc)

pub left_decides : (x y : Option Form) (g h : Bool) → differing x y ≡ Some LeftAlone → by_values key_form_order form_values x y g h
    ≡ (if h then Less else Greater)
left_decides None None g h e = cc
left_decides None (Some w) g h e = cc
left_decides (Some v) None g h e = refl
left_decides (Some v) (Some w) g h e = absurd ((not_alone (form_values v w)).0 e)

pub right_decides : (x y : Option Form) (g h : Bool) → differing x y ≡ Some RightAlone → by_values key_form_order form_values x y g h
    ≡ (if g then Greater else Less)
right_decides None None g h e = cc
right_decides None (Some w) g h e = refl
right_decides (Some v) None g h e = cc
right_decides (Some v) (Some w) g h e = absurd ((not_alone (form_values v w)).1 e)

module _ (es fs : List (KeyForm × Form)) (k : KeyForm) (least : IsLeastDifference key_form_order form_values es fs k) where
  abbrev here : Option Form
  here = value_at key_form_order es k

  abbrev there : Option Form
  there = value_at key_form_order fs k

  pub by_held : (o : Ordering) → differing here there ≡ Some (Values o) → o ≡ maps_order es fs
  by_held o e = sym (ordered_at es fs k least ∙ values_decide here there _ _ o e)

  pub by_left : (b : Bool) → differing here there ≡ Some LeftAlone → goes_on key_form_order fs k ≡ b → (if b then Less else Greater)
      ≡ maps_order es fs
  by_left b e g = sym (ordered_at es fs k least ∙ left_decides here there _ _ e ∙ ap (λ c. if c then Less else Greater) g)

  pub by_right : (b : Bool) → differing here there ≡ Some RightAlone → goes_on key_form_order es k ≡ b → (if b then Greater else Less)
      ≡ maps_order es fs
  by_right b e g = sym (ordered_at es fs k least ∙ right_decides here there _ _ e ∙ ap (λ c. if c then Greater else Less) g)
