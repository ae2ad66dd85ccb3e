-- Names: that they are ASCII, what a line of `set` says, and names one a line.
use Rattle.std.proofs.Common.{◌≡◌, ◌≢◌, ◌∙◌, ℕ, true, List, [], ◌∷◌, ◌++◌, Bor, Option, None, Some, Ok, MatchOption, ap, arith, codes, map, refl, subst, sym}
use Rattle.std.specs.FinMap.{entries, keys}
use Rattle.std.specs.List.{find, flat_map, list_all}
use Rattle.std.specs.Str.{IsUtf8, IsAscii}
use Rattle.std.proofs.lemmas.Bool.{and_parts}
use Rattle.std.proofs.lemmas.Bool.Decides.{nat_tests}
use Rattle.std.proofs.lemmas.Str.{IsUtf8-from_ascii}
use Rattle.std.proofs.lemmas.Str.Ascii.{IsAscii-nil, IsAscii-cons}
use Rattle.tera_context.specs.Context.{lent_entries}
use Rattle.tera_meaning.specs.Form.{Form}
use Rattle.tera_meaning.specs.Request.{Command, asking, set}
use Rattle.tera_meaning.specs.State.{State}
use Rattle.tera_report.specs.Errors.{Raises, Refuses}
use Rattle.tera_report.specs.Refusal.{message}
use Rattle.tera_report.specs.declared.errors.Error.{Error}
use Rattle.tera_replies.specs.Script.{ended}
use Rattle.tera_script.specs.Line.{Says}
use Rattle.tera_script.specs.Word.{IsName, is_name_byte}
use Rattle.tera_c.specs.Values.{SpellsSet, is_broken, names_in, names_where, set_line}

name_bytes : (bytes : List ℕ) → list_all is_name_byte bytes ≡ true → IsAscii bytes
name_bytes [] each = IsAscii-nil
name_bytes (b ∷ bytes) each =
    let (first, others) = and_parts (is_name_byte b) (list_all is_name_byte bytes) each in
    IsAscii-cons b bytes (grind (arith, nat_tests, first)) (name_bytes bytes others)

pub is_no_name : (bytes : List ℕ) → ¬ IsUtf8 bytes → ¬ IsName bytes
is_no_name [] other n = n
is_no_name (b ∷ bytes) other n =
    other (IsUtf8-from_ascii (b ∷ bytes) (IsAscii-cons b bytes (grind (arith, nat_tests, n.0)) (name_bytes bytes n.1)))

-- the value of a command that a line of `set` says, where it sets the name
pub found_by : ((line : List ℕ) (first second : Command) → Says line first → Says line second → first ≡ second)
    → (name literal : List ℕ) (command : Command) (found : Option Form) → Says (set_line name literal) command
    → MatchOption found ((value : Form) → command ≢ asking (set name value)) (λ value. command ≡ asking (set name value))
    → MatchOption found (¬ ((value : Form) × SpellsSet name literal value)) (SpellsSet name literal)
found_by one name literal command None says none =
    λ other. none other.0 (one (set_line name literal) command (asking (set name other.0)) says other.1)
found_by one name literal command (Some value) says is = subst (Says (set_line name literal)) is says

-- the names of lent entries
lent_names : (all : List (Bor (List ℕ) × Bor Form)) → map (λ e. e.0.now) all ≡ map (λ e. e.0) (lent_entries all)
lent_names [] = refl
lent_names (e ∷ all) = ap (λ (names : List (List ℕ)). e.0.now ∷ names) (lent_names all)

pub names_of : (all : List (Bor (List ℕ) × Bor Form)) (state : State) → lent_entries all ≡ entries state → map (λ e. e.0.now) all ≡ keys state
names_of all state is = lent_names all ∙ ap (λ (es : List (List ℕ × Form)). map (λ e. e.0) es) is

-- what is answered of them
pub one_broken : (names : List (List ℕ)) (name : List ℕ) (error : Error) → find is_broken names ≡ Some name
    → Raises (message (codes "A line feed stands inside the name " ++ name)) error → Refuses (names_in names) error
one_broken names name error found raised = subst (λ (first : Option (List ℕ)). Refuses (names_where first names) error) (sym found) raised

pub none_broken : (names : List (List ℕ)) (text : List ℕ) → find is_broken names ≡ None → text ≡ flat_map ended names → names_in names ≡ Ok text
none_broken names text none is = ap (λ (first : Option (List ℕ)). names_where first names) none ∙ ap Ok (sym is)
