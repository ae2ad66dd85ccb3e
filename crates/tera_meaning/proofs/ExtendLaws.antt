-- What a state holds after it takes over what a source holds.
use Rattle.std.proofs.Math.Facts.{and_yes, yes_and}
use Rattle.std.specs.Prelude.{◌≡◌, ◌≢◌, ◌<◌, ◌+◌, ℕ, Bool, true, false, cond, T, IsSome, List, [], ◌∷◌, ◌++◌, length, take, drop, Option, Some, None, refl}
use Rattle.std.proofs.Common.{sym, ◌∙◌, ap, subst, arith, take-append-drop, length-append, length-drop, length-take-le, rules}
use Rattle.std.specs.Option.{option_or}
use Rattle.std.specs.Ordering.{nat_cmp, eq_by_cmp, is_lt}
use Rattle.std.specs.Cmp.Lexicographic.{slice_cmp, nat_list_cmp_total}
use Rattle.std.specs.FinMap.{get, find, insert, entries, from_entries, from_sorted, is_sorted, get-entries, get-insert, get-from_entries, get-from_sorted}
use Rattle.std.specs.FinMap.{entries-from_sorted, len, len-entries, entries_sorted}
use Rattle.std.specs.FinMap.Entries.{below_all}
use Rattle.std.specs.declared.cmp.Ordering.{Ordering}
use Rattle.std.specs.declared.cmp.Ordering.TheVariants.{Less}
use Rattle.std.specs.Cmp.{Equal-is}
use Rattle.tera_meaning.specs.Alike.{MeanTheSame}
use Rattle.tera_meaning.specs.Form.{Form}
use Rattle.tera_meaning.specs.State.{State, extended, IsProperBeginning}
use Rattle.tera_meaning.proofs.StateLaws.{name_exact, same_state}

-- ---- lists of pairs

chosen_or : (b : Bool) (value : Form) (o p : Option Form)
    → cond b (Some value) (option_or o p) ≡ option_or (cond b (Some value) o) p
chosen_or x0 value o p = search rules

-- the first of two lists that has a name says what it has
find_either : (name : List ℕ) (first later : List (List ℕ × Form))
    → find (slice_cmp nat_cmp) name (first ++ later)
    ≡ option_or (find (slice_cmp nat_cmp) name first) (find (slice_cmp nat_cmp) name later)
find_either name [] later = refl
find_either name (p ∷ first) later = search (rules, slice_cmp, chosen_or, find, (find_either name first later))

-- ---- the extended state

pub get_extended : (state source : State) (name : List ℕ)
    → get (extended state source) name ≡ option_or (get source name) (get state name)
get_extended state source name = search (rules, get-from_entries, nat_list_cmp_total, find_either, get-entries)

-- one more name of the source is one more that the state takes over
pub extended_insert : (state source : State) (name : List ℕ) (value : Form)
    → extended state (insert source name value) ≡ insert (extended state source) name value
extended_insert state source name value = search (rules, same_state, get_extended, insert, get, get-insert, nat_list_cmp_total, chosen_or, slice_cmp)

-- what the source names, it decides; the rest stays
pub source_taken : (state source : State) (name : List ℕ) → IsSome (get source name)
    → get (extended state source) name ≡ get source name
source_taken state source name held = search (rules, get_extended, get)

pub others_kept : (state source : State) (name : List ℕ) → get source name ≡ None
    → get (extended state source) name ≡ get state name
others_kept state source name absent = search (rules, get_extended, get)

-- ---- meanings

pub extended_alike : (f g source other : State) → MeanTheSame f g → MeanTheSame source other
    → MeanTheSame (extended f source) (extended g other)
extended_alike f g source other h also name = search (rules, get_extended, get)

-- ---- a beginning of a source

first_or : (o p q : Option Form) → q ≡ option_or o p → IsSome o → q ≡ o
first_or x0 p q e h = search rules

-- a beginning has nothing that the whole has not
pub beginning_held : (part whole : State) (name : List ℕ) → IsProperBeginning part whole → IsSome (get part name)
    → get whole name ≡ get part name
beginning_held part whole name x3 held = search (rules, first_or, get, find, slice_cmp, get-entries, find_either, entries)

-- ---- pairs in the order of their names

abbrev pub is_rising : List (List ℕ × Form) → Bool
is_rising pairs = is_sorted (slice_cmp nat_cmp) pairs

pub entries_of_rising : (pairs : List (List ℕ × Form)) → T (is_rising pairs)
    → entries (from_entries {R = slice_cmp nat_cmp} pairs) ≡ pairs
entries_of_rising pairs h =
    search (rules, entries, same_state, from_entries, from_sorted, get-from_entries, nat_list_cmp_total, get-from_sorted, slice_cmp, entries-from_sorted)

above_first : (name : List ℕ) (pairs later : List (List ℕ × Form))
    → T (below_all (slice_cmp nat_cmp) name (pairs ++ later)) → T (below_all (slice_cmp nat_cmp) name pairs)
above_first name [] later h = tt
above_first name (p ∷ pairs) later h = search (rules, slice_cmp, yes_and, and_yes, (above_first name pairs later))

-- the first of pairs that rise rise
pub rising_first : (pairs later : List (List ℕ × Form)) → T (is_rising (pairs ++ later)) → T (is_rising pairs)
rising_first [] later h = tt
rising_first (p ∷ pairs) later h = search (rules, below_all, slice_cmp, yes_and, above_first, and_yes, (rising_first pairs later))

-- of a state there is a beginning of each length below its own
module _ (whole : State) (n : ℕ) (fewer : n < len whole) where
  some_later : n < length (entries whole)
  some_later = search (rules, len-entries)

  split : take n (entries whole) ++ drop n (entries whole) ≡ entries whole
  split = search (rules, take-append-drop, entries)

  rising : entries (from_entries {R = slice_cmp nat_cmp} (take n (entries whole))) ≡ take n (entries whole)
  rising = entries_of_rising (take n (entries whole)) (rising_first (take n (entries whole)) (drop n (entries whole))
      (subst (λ es. T (is_rising es)) (sym split) (entries_sorted whole)))

  pub beginning_of : (part : State) × IsProperBeginning part whole × (len part ≡ n)
  beginning_of = (
    from_entries (take n (entries whole)),
    (
      drop n (entries whole),
      λ e. let left = length-drop n (entries whole) in let none = ap length e in omega (arith, some_later, left, none),
      sym split ∙ ap (λ es. es ++ drop n (entries whole)) (sym rising),
    ),
    len-entries (from_entries (take n (entries whole))) ∙ ap length rising
        ∙ length-take-le n (entries whole) (let less = some_later in omega (arith, less)),
  )

-- ---- a beginning has the first names

-- what is so of a name of the first pair, and of each name of the others, is so of each name that is found
found_holds : (P : List ℕ → Type 0) (p : List ℕ × Form) (pairs : List (List ℕ × Form)) (name : List ℕ) (b : Bool)
    → eq_by_cmp (slice_cmp nat_cmp) name p.0 ≡ b → P p.0 → (IsSome (find (slice_cmp nat_cmp) name pairs) → P name)
    → IsSome (cond b (Some p.1) (find (slice_cmp nat_cmp) name pairs)) → P name
found_holds P p pairs name true e first others is = subst P (sym (name_exact name p.0 ((Equal-is (slice_cmp nat_cmp name p.0)).0 e))) first
found_holds P p pairs name false e first others is = others is

is_less : (o : Ordering) → T (is_lt o) → o ≡ Less
is_less x0 h = search rules

-- what is below all pairs is below each name that they have
below_found : (q other : List ℕ) (pairs : List (List ℕ × Form)) → T (below_all (slice_cmp nat_cmp) q pairs)
    → IsSome (find (slice_cmp nat_cmp) other pairs) → slice_cmp nat_cmp q other ≡ Less
below_found q other [] h is = cc
below_found q other (p ∷ pairs) h is =
    found_holds (λ name. slice_cmp nat_cmp q name ≡ Less) p pairs other (eq_by_cmp (slice_cmp nat_cmp) other p.0) refl
    (is_less (slice_cmp nat_cmp q p.0) (and_yes _ _ h).0) (below_found q other pairs (and_yes _ _ h).1) is

later_some : (o p : Option Form) → IsSome p → IsSome (option_or o p)
later_some x0 p is = search rules

first_before : (pairs later : List (List ℕ × Form)) (name other : List ℕ) → T (is_rising (pairs ++ later))
    → IsSome (find (slice_cmp nat_cmp) name pairs) → IsSome (find (slice_cmp nat_cmp) other later)
    → slice_cmp nat_cmp name other ≡ Less
first_before [] later name other h is also = cc
first_before (p ∷ pairs) later name other h is also =
    let further : IsSome (find (slice_cmp nat_cmp) other (pairs ++ later)) =
    subst IsSome (sym (find_either other pairs later)) (later_some (find (slice_cmp nat_cmp) other pairs) _ also) in
    found_holds (λ first. slice_cmp nat_cmp first other ≡ Less) p pairs name (eq_by_cmp (slice_cmp nat_cmp) name p.0) refl
    (below_found p.0 other (pairs ++ later) (and_yes _ _ h).0 further)
    (λ some. first_before pairs later name other (and_yes _ _ h).1 some also) is

pub first_names : (part whole : State) (name other : List ℕ) → IsProperBeginning part whole → IsSome (get part name)
    → IsSome (get whole other) → get part other ≡ None → slice_cmp nat_cmp name other ≡ Less
first_names part whole name other (later, some, e) is also none =
    let rise : T (is_rising (entries part ++ later)) = subst (λ es. T (is_rising es)) e (entries_sorted whole) in
    let absent : find (slice_cmp nat_cmp) other (entries part) ≡ None = sym (get-entries part other) ∙ none in
    let found : get whole other ≡ find (slice_cmp nat_cmp) other later =
    get-entries whole other ∙ ap (find (slice_cmp nat_cmp) other) e ∙ find_either other (entries part) later
    ∙ ap (λ o. option_or o (find (slice_cmp nat_cmp) other later)) absent in
    first_before (entries part) later name other rise (subst IsSome (get-entries part name) is) (subst IsSome found also)

some_length : (later : List (List ℕ × Form)) → later ≢ [] → 0 < length later
some_length [] some = absurd (some refl)
some_length (p ∷ later) some = omega arith

pub fewer_names : (part whole : State) → IsProperBeginning part whole → len part < len whole
fewer_names part whole (later, some, e) =
    let split : length (entries whole) ≡ length (entries part) + length later = ap length e ∙ length-append (entries part) later in
    let left = some_length later some in
    let all = len-entries whole in
    let first = len-entries part in
    omega (arith, split, left, all, first)

pub ruleset laws = (source_taken, others_kept, beginning_of, beginning_held, first_names, fewer_names)
