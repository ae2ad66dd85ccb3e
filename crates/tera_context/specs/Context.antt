-- From the code's map of names to a state.
use Rattle.std.specs.Prelude.{ℕ, List, length, map, not, String}
use Rattle.std.specs.Borrow.{Bor}
use Rattle.std.specs.Cmp.{IsPartialEquivalence}
use Rattle.std.specs.FinMap.{contains_key, from_entries}
use Rattle.std.specs.List.{filter}
use Rattle.std.specs.String.{string_bytes}
use Rattle.tera_meaning.specs.Form.{Form}
use Rattle.tera_meaning.proofs.EqualLaws.{states_equal_laws}
use Rattle.tera_meaning.specs.State.{State, states_equal}

-- the pairs, each name by its bytes
abbrev pub named : {A : Type 0} → List (String A × Form) → List (List ℕ × Form)
named pairs = map (λ p. (string_bytes p.0, p.1)) pairs

abbrev pub state_of : {A : Type 0} → List (String A × Form) → State
state_of pairs = from_entries (named pairs)

-- what lent names and values refer to
abbrev pub lent_entries : List (Bor (List ℕ) × Bor Form) → List (List ℕ × Form)
lent_entries all = map (λ entry. (entry.0.now, entry.1.now)) all

-- how many of the pairs have a name that the state has not
abbrev pub new_names : {A : Type 0} → State → List (String A × Form) → ℕ
new_names state pairs = length (filter (λ p. not (contains_key state (string_bytes p.0))) pairs)

-- the laws of `==` of contexts
pub equal_laws : IsPartialEquivalence states_equal
equal_laws = states_equal_laws
