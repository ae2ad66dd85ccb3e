-- What a state holds after a value is set or a name is removed.
use Rattle.std.specs.Prelude.{◌≡◌, ◌≢◌, ℕ, Bool, false, cond, List, Some, None}
use Rattle.std.proofs.Common.{ap, rules}
use Rattle.std.specs.Ordering.{nat_cmp, eq_by_cmp}
use Rattle.std.specs.Cmp.{tied_itself, Equal-is}
use Rattle.std.specs.Cmp.Lexicographic.{slice_cmp, nat_list_cmp_total}
use Rattle.std.specs.Option.{unwrap_or}
use Rattle.std.specs.FinMap.{empty, get, insert, remove, get-empty, get-insert, get-remove, same_map, IsAntisymmetric, nat_cmp-IsAntisymmetric}
use Rattle.std.specs.FinMap.{slice_cmp-IsAntisymmetric}
use Rattle.tera_meaning.specs.Form.{Form}
use Rattle.tera_meaning.specs.Meaning.{meaning}
use Rattle.tera_meaning.specs.State.{State, meaning_at}
use Rattle.tera_meaning.specs.Tree.{undefined}

pub name_exact : IsAntisymmetric (slice_cmp nat_cmp)
name_exact = search (rules, slice_cmp-IsAntisymmetric, nat_cmp-IsAntisymmetric)

pub apart : (q k : List ℕ) → q ≢ k → eq_by_cmp (slice_cmp nat_cmp) q k ≡ false
apart q k n = search (rules, slice_cmp, name_exact, Equal-is)

-- the name that is set has the value, and each other name has what it had
pub get_set : (state : State) (name : List ℕ) (value : Form) → get (insert state name value) name ≡ Some value
get_set state name value = search (rules, get-insert, nat_list_cmp_total, get, tied_itself)

pub get_other : (state : State) (name : List ℕ) (value : Form) (other : List ℕ) → other ≢ name
    → get (insert state name value) other ≡ get state other
get_other state name value other n = search (rules, get-insert, nat_list_cmp_total, apart)

-- a name that is removed is held no more, and each other name has what it had
pub get_removed : (state : State) (name : List ℕ) → get (remove state name) name ≡ None
get_removed state name = search (rules, get-remove, nat_list_cmp_total, get, tied_itself)

pub get_kept : (state : State) (name other : List ℕ) → other ≢ name → get (remove state name) other ≡ get state other
get_kept state name other n = search (rules, get-remove, nat_list_cmp_total, apart)

-- states that answer alike are one
pub same_state : (f g : State) → ((name : List ℕ) → get f name ≡ get g name) → f ≡ g
same_state f g is = same_map nat_list_cmp_total name_exact f g is

pub meaning_set : (state : State) (name : List ℕ) (value : Form)
    → meaning_at (insert state name value) name ≡ meaning value
meaning_set state name value = ap (λ o. meaning (unwrap_or o undefined)) (get_set state name value)

pub meaning_other : (state : State) (name : List ℕ) (value : Form) (other : List ℕ) → other ≢ name
    → meaning_at (insert state name value) other ≡ meaning_at state other
meaning_other state name value other n = ap (λ o. meaning (unwrap_or o undefined)) (get_other state name value other n)

-- in a state that holds nothing each name reads as undefined
pub meaning_empty : (name : List ℕ) → meaning_at empty name ≡ undefined
meaning_empty name = search (rules, get-empty, slice_cmp)

pub held_empty : (name : List ℕ) → get {X = Form} {R = slice_cmp nat_cmp} empty name ≡ None
held_empty name = search (rules, get-empty, slice_cmp)

-- to remove a name that is not held changes nothing
removed_absent : (state : State) (name other : List ℕ) (b : Bool) → eq_by_cmp (slice_cmp nat_cmp) other name ≡ b
    → get state name ≡ None → cond b None (get state other) ≡ get state other
removed_absent state name other x3 e h = search (rules, get, name_exact, slice_cmp)

pub remove_absent : (state : State) (name : List ℕ) → get state name ≡ None → remove state name ≡ state
remove_absent state name h = search (rules, same_state, get-remove, nat_list_cmp_total, removed_absent, slice_cmp)

pub ruleset laws = (get_set, get_other, get_removed, get_kept, remove_absent, meaning_set, meaning_other, meaning_empty, held_empty)
