-- What a map of names takes over from another, name by name; and when two are equal.
use Rattle.std.specs.Prelude.{◌≡◌, ◌≢◌, ◌⊎◌, ℕ, length, Bool, true, false, cond, List, [], ◌∷◌, ◌++◌, Result, Ok, Err, Option, OnErr, Some, None, String}
use Rattle.std.specs.Prelude.{is_some, refl}
use Rattle.std.proofs.Common.{sym, ◌∙◌, ap, inl, inr}
use Rattle.std.proofs.lemmas.Bool.{true≢false}
use Rattle.std.proofs.lemmas.Bool.Decides.{same_from_decides}
use Rattle.std.specs.Cmp.{Equal-is}
use Rattle.std.specs.Cmp.Lexicographic.{slice_cmp, bytes_decides, nat_list_cmp_total}
use Rattle.std.specs.FinMap.{empty, empty_of_len, entries, get, get-empty, get-insert, insert, len-entries}
use Rattle.std.specs.HashMap.Eq.{get_from_hash_map_eq, hash_map_eq_from_get}
use Rattle.std.specs.List.{AllByRecursion, IsDistinct}
use Rattle.std.specs.Map.{keys_of, lookup}
use Rattle.std.specs.Option.{option_eq, option_map, option_or}
use Rattle.std.specs.Ordering.{nat_cmp, eq_by_cmp, on}
use Rattle.std.specs.Str.{bytes_eq}
use Rattle.std.specs.String.{string_bytes, string_eq, string_eq_equiv}
use Rattle.std.proofs.lemmas.Map.Text.{is_text}
use Rattle.indexmap.specs.IndexMap.{IndexMap, index_map_eq}
use Rattle.tera_meaning.proofs.EqualLaws.{equal_is}
use Rattle.tera_meaning.proofs.ExtendLaws.{get_extended, extended_insert, entries_of_rising}
use Rattle.tera_meaning.proofs.OrderLaws.{same_is}
use Rattle.tera_meaning.specs.Alike.{MeanTheSame}
use Rattle.tera_meaning.specs.Form.{Form}
use Rattle.tera_meaning.specs.Meaning.{meaning}
use Rattle.tera_meaning.specs.Order.{same}
use Rattle.tera_meaning.specs.State.{State, states_equal, extended, IsProperBeginning}
use Rattle.tera_meaning.proofs.StateLaws.{get_set, name_exact, same_state}
use Rattle.tera_context.specs.Context.{state_of}
use Rattle.tera_context.proofs.Names.{get_named}

-- no two names of the pairs are equal
abbrev pub AreApart : {A : Type 0} → List (String A × Form) → Type 0
AreApart pairs = IsDistinct string_eq (keys_of pairs)

pub nothing_taken : (state : State) → extended state empty ≡ state
nothing_taken state =
    same_state (extended state empty) state (λ name.
    get_extended state empty name ∙ ap (λ o. option_or o (get state name)) (get-empty (slice_cmp nat_cmp) name))

or_none : (o : Option Form) → option_or o None ≡ o
or_none None = refl
or_none (Some value) = refl

pub taken_by_nothing : (source : State) → extended empty source ≡ source
taken_by_nothing source =
    same_state (extended empty source) source (λ name.
    get_extended empty source name
    ∙ ap (option_or (get source name)) (get-empty (slice_cmp nat_cmp) name)
    ∙ or_none (get source name))

later_or : (b : Bool) (value : Form) (o p : Option Form) → (b ≡ true → o ≡ None)
    → option_or o (cond b (Some value) p) ≡ cond b (Some value) (option_or o p)
later_or true value o p none = ap (λ r. option_or r (Some value)) (none refl)
later_or false value o p none = refl

-- a name that the source has not can be kept before it is taken over, or behind
kept_before : (state source : State) (name : List ℕ) (value : Form) → get source name ≡ None
    → insert (extended state source) name value ≡ extended (insert state name value) source
kept_before state source name value none = same_state _ _ (λ other.
    let tie = eq_by_cmp (slice_cmp nat_cmp) other name in
    get-insert nat_list_cmp_total (extended state source) name value other
    ∙ ap (cond tie (Some value)) (get_extended state source other)
    ∙ sym (later_or tie value (get source other) (get state other) (λ e.
    ap (get source) (name_exact other name ((Equal-is (slice_cmp nat_cmp other name)).0 e)) ∙ none))
    ∙ ap (option_or (get source other)) (sym (get-insert nat_list_cmp_total state name value other))
    ∙ sym (get_extended (insert state name value) source other))

absent_behind : {A : Type 0} (name : String A) (pairs : List (String A × Form))
    → AllByRecursion (λ k. string_eq name k ≡ false) (keys_of pairs) → lookup (is_text (string_bytes name)) pairs ≡ None
absent_behind name [] h = refl
absent_behind name (p ∷ pairs) h =
    ap (λ b. cond b (Some p.1) (lookup (is_text (string_bytes name)) pairs)) h.0 ∙ absent_behind name pairs h.1

-- to take pairs over is to keep the first, and then to take over the others
pub taken_on : {A : Type 0} (state : State) (next : String A × Form) (left : List (String A × Form)) → AreApart (next ∷ left)
    → extended state (state_of (next ∷ left)) ≡ extended (insert state (string_bytes next.0) next.1) (state_of left)
unfolding IsDistinct
taken_on state next left apart =
    extended_insert state (state_of left) (string_bytes next.0) next.1
    ∙ kept_before state (state_of left) (string_bytes next.0) next.1
    (get_named left (string_bytes next.0) ∙ absent_behind next.0 left apart.0)

pub left_apart : {A : Type 0} (next : String A × Form) (left : List (String A × Form)) → AreApart (next ∷ left) → AreApart left
unfolding IsDistinct
left_apart next left apart = apart.1

-- what takes pairs over has names
pub some_taken : {A : Type 0} (state : State) (next : String A × Form) (left : List (String A × Form))
    → extended state (state_of (next ∷ left)) ≢ empty
some_taken state next left e =
    let name = string_bytes next.0 in
    let there = get_extended state (state_of (next ∷ left)) name
    ∙ ap (λ o. option_or o (get state name)) (get_set (state_of left) name next.1) in
    let none = ap (λ s. get s name) e ∙ get-empty {X = Form} (slice_cmp nat_cmp) name in
    true≢false (ap is_some (sym there ∙ none))

-- where pairs are left to take over, the whole has names
pub left_over : {A : Type 0} (state whole : State) (next : String A × Form) (left all : List (String A × Form))
    → all ≡ next ∷ left → extended state (state_of all) ≡ whole → whole ≢ empty
left_over state whole next left all steps is none =
    some_taken state next left (ap (λ es. extended state (state_of es)) (sym steps) ∙ is ∙ none)

-- a state of no names has no pairs
pub no_pairs : {A : Type 0} (pairs : List (String A × Form)) → state_of pairs ≡ empty → length pairs ≡ 0
no_pairs [] e = refl
no_pairs (p ∷ pairs) e = absurd (some_taken empty p pairs (taken_by_nothing (state_of (p ∷ pairs)) ∙ e))

-- of a source that has names, none is a beginning
pub none_begins : (source : State) → source ≢ empty → IsProperBeginning empty source
none_begins source more = (
  entries source,
  λ none. more (empty_of_len source (len-entries source ∙ ap length none)),
  ap (λ es. es ++ entries source) (sym (entries_of_rising [] tt)),
)

pub holds_on_err : {X E : Type 0} (r : Result X E) (P : Type 0) → P → OnErr r P
holds_on_err (Ok x) P h = tt
holds_on_err (Err e) P h = h

-- ---- equality

-- nothing has these bytes, or some name does
finds : {A : Type 0} (bs : List ℕ) (pairs : List (String A × Form))
    → (lookup (is_text bs) pairs ≡ None) ⊎ ((k : String A) × (bs ≡ string_bytes k))
finds bs [] = inl refl
finds {A} bs (p ∷ pairs) = next (bytes_eq bs (string_bytes p.0)) refl (finds bs pairs)
  where
    next : (b : Bool) → bytes_eq bs (string_bytes p.0) ≡ b
        → (lookup (is_text bs) pairs ≡ None) ⊎ ((k : String A) × (bs ≡ string_bytes k))
        → (cond (bytes_eq bs (string_bytes p.0)) (Some p.1) (lookup (is_text bs) pairs) ≡ None) ⊎ ((k : String A) × (bs ≡ string_bytes k))
    next true e rest = inr (p.0, (bytes_decides bs (string_bytes p.0)).0 e)
    next false e (inl none) = inl (ap (λ b. cond b (Some p.1) (lookup (is_text bs) pairs)) e ∙ none)
    next false e (inr found) = inr found

-- whether two look-ups find nothing, or values of one meaning
abbrev agree : Option Form → Option Form → Bool
agree o p = option_eq (on meaning same) o p

agree_means : (o p : Option Form) → agree o p ≡ true → option_map meaning o ≡ option_map meaning p
agree_means None None h = refl
agree_means None (Some w) h = absurd (true≢false (sym h))
agree_means (Some v) None h = absurd (true≢false (sym h))
agree_means (Some v) (Some w) h = ap Some ((same_is (meaning v) (meaning w)).0 h)

means_agree : (o p : Option Form) → option_map meaning o ≡ option_map meaning p → agree o p ≡ true
means_agree None None h = refl
means_agree None (Some w) h = cc
means_agree (Some v) None h = cc
means_agree (Some v) (Some w) h =
    let inner : meaning v ≡ meaning w = cc in
    (same_is (meaning v) (meaning w)).1 inner

module _ {A S : Type 0} (m n : IndexMap (String A) Form S) where
  abbrev maps_equal : Bool
  maps_equal = index_map_eq string_eq (on meaning same) m n

  names_agree : maps_equal ≡ true → (bs : List ℕ)
      → agree (lookup (is_text bs) m.entries) (lookup (is_text bs) n.entries) ≡ true
  names_agree h bs = by (finds bs m.entries) (finds bs n.entries)
    where
      named : (k : String A) → bs ≡ string_bytes k
          → agree (lookup (is_text bs) m.entries) (lookup (is_text bs) n.entries) ≡ true
      named k e =
          ap (λ cs. agree (lookup (is_text cs) m.entries) (lookup (is_text cs) n.entries)) e
          ∙ get_from_hash_map_eq string_eq (on meaning same) string_eq_equiv m n h k

      by : (lookup (is_text bs) m.entries ≡ None) ⊎ ((k : String A) × (bs ≡ string_bytes k))
          → (lookup (is_text bs) n.entries ≡ None) ⊎ ((k : String A) × (bs ≡ string_bytes k))
          → agree (lookup (is_text bs) m.entries) (lookup (is_text bs) n.entries) ≡ true
      by (inl a) (inl b) = λ i. agree (a i) (b i)
      by (inl a) (inr k) = named k.0 k.1
      by (inr k) b = named k.0 k.1

  equal_means : maps_equal ≡ true → MeanTheSame (state_of m.entries) (state_of n.entries)
  equal_means h bs =
      ap (option_map meaning) (get_named m.entries bs)
      ∙ agree_means (lookup (is_text bs) m.entries) (lookup (is_text bs) n.entries) (names_agree h bs)
      ∙ ap (option_map meaning) (sym (get_named n.entries bs))

  means_equal : MeanTheSame (state_of m.entries) (state_of n.entries) → maps_equal ≡ true
  means_equal h = hash_map_eq_from_get string_eq (on meaning same) m n (λ k.
      means_agree (lookup (string_eq k) m.entries) (lookup (string_eq k) n.entries)
      (ap (option_map meaning) (sym (get_named m.entries (string_bytes k)))
      ∙ h (string_bytes k)
      ∙ ap (option_map meaning) (get_named n.entries (string_bytes k))))

  -- two maps of names are equal where their states are
  pub equal_maps : maps_equal ≡ states_equal (state_of m.entries) (state_of n.entries)
  equal_maps =
      same_from_decides maps_equal (states_equal (state_of m.entries) (state_of n.entries)) (equal_means, means_equal)
      (equal_is (state_of m.entries) (state_of n.entries))
