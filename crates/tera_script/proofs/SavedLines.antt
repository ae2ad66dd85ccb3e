-- The lines of a script say their commands, and the run of these makes the state again.
use Rattle.std.specs.Prelude.{◌≡◌, ℕ, Bool, true, false, cond, List, [], ◌∷◌, ◌++◌, map, Option, Some, None, Ok, IfSome, IsUtf8, T, not, ◌&&◌}
use Rattle.std.specs.Prelude.{codes, refl}
use Rattle.std.proofs.Common.{sym, ◌∙◌, ap, subst, inl, arith}
use Rattle.std.proofs.lemmas.Bool.Decides.{nat_tests}
use Rattle.std.proofs.Math.Facts.{and_yes}
use Rattle.std.proofs.lemmas.List.Folds.{list_all-append}
use Rattle.std.specs.Cmp.{Equal-is, tied_itself}
use Rattle.std.specs.Cmp.Lexicographic.{slice_cmp, nat_list_cmp_total}
use Rattle.std.specs.FinMap.{empty, entries, entries_sorted, find, get, get-empty, get-entries, get-from_entries, get-insert}
use Rattle.std.specs.FinMap.{insert, is_sorted}
use Rattle.std.specs.FinMap.Entries.{below_all}
use Rattle.std.specs.List.{AllByRecursion, AllZip, list_all}
use Rattle.std.specs.Option.{option_map, option_or}
use Rattle.std.specs.Ordering.{nat_cmp, eq_by_cmp, is_eq, is_lt}
use Rattle.std.specs.declared.cmp.Ordering.{Ordering}
use Rattle.std.specs.declared.cmp.Ordering.TheVariants.{Less, Equal, Greater}
use Rattle.tera_meaning.proofs.StateLaws.{name_exact, same_state}
use Rattle.tera_meaning.specs.Answer.{done}
use Rattle.tera_meaning.specs.Form.{Form}
use Rattle.tera_meaning.specs.Outcome.{Outcome}
use Rattle.tera_meaning.specs.Run.{IsAmpleRun, IsRun, NoneWantsMemory, state_after_all}
use Rattle.tera_meaning.specs.State.{State}
use Rattle.tera_meaning.specs.WellMade.{IsWellMade, IsWellMadeState}
use Rattle.tera_report.specs.Quoted.{is_control}
use Rattle.tera_script.specs.Line.{Says}
use Rattle.tera_script.specs.Saved.{commands_of, set_line, HaveLines, owned_state}
use Rattle.tera_script.specs.Word.{is_name_byte, IsName}
use Rattle.tera_script.specs.Written.{literal_of, owned_form}
use Rattle.tera_script.proofs.Names.{start_goes_on}
use Rattle.tera_script.proofs.WrittenLines.{line_says, no_control}

-- the entries with forms whose keys own their texts
abbrev owned : List (List ℕ × Form) → List (List ℕ × Form)
owned es = map (λ e. (e.0, owned_form e.1)) es

-- ---- what stands below all names of a list is none of them

less_is_not : (r : Ordering) → T (is_lt r) → is_eq r ≡ false
less_is_not Less h = refl
less_is_not Equal h = absurd h
less_is_not Greater h = absurd h

none_below : (name : List ℕ) (es : List (List ℕ × Form)) → T (below_all (slice_cmp nat_cmp) name es) → find (slice_cmp nat_cmp) name es ≡ None
none_below name [] h = refl
none_below name (e ∷ es) h =
    let (lower, rest) = and_yes _ _ h in
    ap (λ b. cond b (Some e.1) (find (slice_cmp nat_cmp) name es)) (less_is_not _ lower) ∙ none_below name es rest

find_owned : (name : List ℕ) (es : List (List ℕ × Form)) → find (slice_cmp nat_cmp) name (owned es) ≡ option_map owned_form (find (slice_cmp nat_cmp) name es)
find_owned name [] = refl
find_owned name (e ∷ es) = elim (eq_by_cmp (slice_cmp nat_cmp) name e.0) as (λ b. cond b (Some (owned_form e.1)) (find (slice_cmp nat_cmp) name (owned es))
    ≡ option_map owned_form (cond b (Some e.1) (find (slice_cmp nat_cmp) name es))) [ true ↦ refl | false ↦ find_owned name es ]

-- ---- the run

set_or : (b : Bool) (value : Form) (o p : Option Form) → (b ≡ true → o ≡ None)
    → option_or o (cond b (Some value) p) ≡ option_or (cond b (Some value) o) p
set_or true value o p none = ap (λ r. option_or r (Some value)) (none refl)
set_or false value o p none = refl

-- what is held at a name after the commands
held_after : (state : State) (es : List (List ℕ × Form)) → T (is_sorted (slice_cmp nat_cmp) es) → (name : List ℕ)
    → get (state_after_all state (commands_of es)) name ≡ option_or (find (slice_cmp nat_cmp) name (owned es)) (get state name)
held_after state [] h name = refl
held_after state (e ∷ es) h name =
    let (lower, rest) = and_yes _ _ h in
    let value = owned_form e.1 in
    let absent : eq_by_cmp (slice_cmp nat_cmp) name e.0 ≡ true → find (slice_cmp nat_cmp) name (owned es) ≡ None = λ is.
    ap (λ n. find (slice_cmp nat_cmp) n (owned es)) (name_exact name e.0 ((Equal-is ((slice_cmp nat_cmp) name e.0)).0 is))
    ∙ find_owned e.0 es ∙ ap (option_map owned_form) (none_below e.0 es lower) in
    held_after (insert state e.0 value) es rest name
    ∙ ap (option_or (find (slice_cmp nat_cmp) name (owned es))) (get-insert nat_list_cmp_total state e.0 value name)
    ∙ set_or (eq_by_cmp (slice_cmp nat_cmp) name e.0) value (find (slice_cmp nat_cmp) name (owned es)) (get state name) absent

abbrev outcomes : List (List ℕ × Form) → List Outcome
outcomes es = map (λ e. Ok done) es

runs : (state : State) (es : List (List ℕ × Form)) → IsRun state (commands_of es) (outcomes es) (state_after_all state (commands_of es))
runs state [] = refl
runs state (e ∷ es) = (insert state e.0 (owned_form e.1), inl (refl, refl), runs (insert state e.0 (owned_form e.1)) es)

ample : (es : List (List ℕ × Form)) → NoneWantsMemory (outcomes es)
ample [] = tt
ample (e ∷ es) = (λ is. cc, ample es)

behind_nothing : (o p : Option Form) → p ≡ None → option_or o p ≡ o
behind_nothing None p none = none
behind_nothing (Some value) p none = refl

run_leaves : (state : State) → state_after_all empty (commands_of (entries state)) ≡ owned_state state
run_leaves state = same_state _ (owned_state state) (λ name.
    held_after empty (entries state) (entries_sorted state) name
    ∙ behind_nothing (find (slice_cmp nat_cmp) name (owned (entries state))) (get empty name) (get-empty (slice_cmp nat_cmp) name)
    ∙ sym (get-from_entries nat_list_cmp_total (owned (entries state)) name))

pub made_again : (state : State) → IsAmpleRun empty (commands_of (entries state)) (outcomes (entries state)) (owned_state state)
made_again state =
    (subst (IsRun empty (commands_of (entries state)) (outcomes (entries state))) (run_leaves state) (runs empty (entries state)), ample (entries state))

-- ---- form by form

pub each_form : (state : State) (name : List ℕ) → get (owned_state state) name ≡ option_map owned_form (get state name)
each_form state name =
    get-from_entries nat_list_cmp_total (owned (entries state)) name
    ∙ find_owned name (entries state)
    ∙ ap (option_map owned_form) (sym (get-entries state name))

itself : (o : Option Form) → IfSome o (λ form. owned_form form ≡ form) → option_map owned_form o ≡ o
itself None h = refl
itself (Some form) h = ap Some h

pub very_state : (state : State) → ((name : List ℕ) → IfSome (get state name) (λ form. owned_form form ≡ form)) → owned_state state ≡ state
very_state state h = same_state (owned_state state) state (λ name. each_form state name ∙ itself (get state name) (h name))

-- ---- the lines

abbrev IsHeldWell : List ℕ → Form → Type 0
IsHeldWell name value = IsUtf8 name × IsWellMade value

held_behind : (e : List ℕ × Form) (es : List (List ℕ × Form)) → T (below_all (slice_cmp nat_cmp) e.0 es) → (name : List ℕ) (b : Bool)
    → eq_by_cmp (slice_cmp nat_cmp) name e.0 ≡ b → IfSome (cond b (Some e.1) (find (slice_cmp nat_cmp) name es)) (IsHeldWell name)
    → IfSome (find (slice_cmp nat_cmp) name es) (IsHeldWell name)
held_behind e es lower name true is h =
    let same = name_exact name e.0 ((Equal-is ((slice_cmp nat_cmp) name e.0)).0 is) in
    subst (λ o. IfSome o (IsHeldWell name)) (sym (ap (λ n. find (slice_cmp nat_cmp) n es) same ∙ none_below e.0 es lower)) tt
held_behind e es lower name false is h = h

are_well : (es : List (List ℕ × Form)) → T (is_sorted (slice_cmp nat_cmp) es) → ((name : List ℕ) → IfSome (find (slice_cmp nat_cmp) name es) (IsHeldWell name))
    → AllByRecursion (λ e. IsWellMade e.1) es
are_well [] up h = tt
are_well (e ∷ es) up h =
    let (lower, rest) = and_yes _ _ up in
    let first : IsHeldWell e.0 e.1 = subst (λ r. IfSome (cond (is_eq r) (Some e.1) (find (slice_cmp nat_cmp) e.0 es)) (IsHeldWell e.0))
    (tied_itself nat_list_cmp_total e.0) (h e.0) in (
      first.1,
      are_well es rest (λ name. held_behind e es lower name (eq_by_cmp (slice_cmp nat_cmp) name e.0) refl (h name)),
    )

entries_well : (state : State) → IsWellMadeState state → AllByRecursion (λ e. IsWellMade e.1) (entries state)
entries_well state made =
    are_well (entries state) (entries_sorted state)
    (λ name. subst (λ o. IfSome o (IsHeldWell name)) (get-entries state name) (made name))

each_said : (ascii : Bool) (es : List (List ℕ × Form)) → AllByRecursion (λ e. IsWellMade e.1) es → HaveLines es
    → AllZip Says (map (set_line ascii) es) (commands_of es)
each_said ascii [] made have = tt
each_said ascii (e ∷ es) made have = (line_says ascii e.0 e.1 have.0.0 made.0 have.0.1, each_said ascii es made.1 have.1)

pub lines_said : (ascii : Bool) (state : State) → IsWellMadeState state → HaveLines (entries state)
    → AllZip Says (map (set_line ascii) (entries state)) (commands_of (entries state))
lines_said ascii state made have = each_said ascii (entries state) (entries_well state made) have

-- ---- what is put prints

abbrev prints : List ℕ → Bool
prints line = list_all (λ byte. not (is_control byte)) line

name_prints : (bytes : List ℕ) → list_all is_name_byte bytes ≡ true → prints bytes ≡ true
name_prints [] h = refl
name_prints (b ∷ bytes) h = grind (arith, nat_tests, name_prints bytes)

whole_prints : (name : List ℕ) → IsName name → prints name ≡ true
whole_prints [] named = absurd named
whole_prints (b ∷ bytes) named = name_prints (b ∷ bytes) (λ i. start_goes_on b named.0 i && named.1 i)

line_prints : (ascii : Bool) (e : List ℕ × Form) → IsWellMade e.1 → IsName e.0 → prints (set_line ascii e) ≡ true
line_prints ascii e made named =
    list_all-append (λ byte. not (is_control byte)) e.0 (codes " " ++ literal_of ascii e.1)
    ∙ (λ i. whole_prints e.0 named i && no_control ascii e.1 made i)

each_prints : (ascii : Bool) (es : List (List ℕ × Form)) → AllByRecursion (λ e. IsWellMade e.1) es → HaveLines es
    → AllByRecursion (λ line. prints line ≡ true) (map (set_line ascii) es)
each_prints ascii [] made have = tt
each_prints ascii (e ∷ es) made have = (line_prints ascii e made.0 have.0.0, each_prints ascii es made.1 have.1)

pub lines_print : (ascii : Bool) (state : State) → IsWellMadeState state → HaveLines (entries state)
    → AllByRecursion (λ line. prints line ≡ true) (map (set_line ascii) (entries state))
lines_print ascii state made have = each_prints ascii (entries state) (entries_well state made) have
