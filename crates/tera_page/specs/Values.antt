-- What an expression stands for in a state.
use Rattle.std.specs.Prelude.{◌==◌, ◌&&◌, ℕ, Bool, true, false, not, List, [], map, Option, None}
use Rattle.std.specs.Prelude.{Some, Result, Ok, if◌then◌else◌, unwrap_or}
use Rattle.std.specs.FinMap.{get}
use Rattle.std.specs.Option.{option_and_then}
use Rattle.std.specs.Ordering.{is_lt, is_le, is_gt, is_ge}
use Rattle.std.specs.declared.cmp.Ordering.{Ordering}
use Rattle.tera.specs.Arithmetic.{and_then, each_ok, calculated, negated}
use Rattle.tera.specs.Form.{Form}
use Rattle.tera.specs.KeyMeaning.{KeyForm, text_key, owned}
use Rattle.tera.specs.Lookup.{holds}
use Rattle.tera.specs.Meaning.{meaning}
use Rattle.tera.specs.Order.{compare, rank, same}
use Rattle.tera.specs.Pairs.{key_form_order, put_all}
use Rattle.tera.specs.Path.{path}
use Rattle.tera.specs.Read.{truthy_in}
use Rattle.tera.specs.Refusal.{Refusal}
use Rattle.tera.specs.State.{State}
use Rattle.tera.specs.Tree.{undefined, none, truth, number, text, bytes, array, object, members}
use Rattle.tera_filters.specs.Filters.{filtered}
use Rattle.tera_page.specs.Template.{Argument, Binary, Expression, Operand, Place, Unary, denied}
use Rattle.tera_page.specs.Template.{opposite, is_defined}
use Rattle.tera_page.specs.Template.{either, both, within, not_within, equal, unequal, less}
use Rattle.tera_page.specs.Template.{at_most, more, at_least, arithmetic, constant, found_at}
use Rattle.tera_page.specs.Template.{operand, one, two, piped}

-- what a path leads to; no path leads to the value itself
abbrev pub led : Option (List ℕ) → Form → Option Form
led None value = Some value
led (Some to) value = path value to

-- undefined is nothing
abbrev pub is_there : Form → Bool
is_there undefined = false
is_there none = true
is_there (truth b) = true
is_there (number n) = true
is_there (text t) = true
is_there (bytes bs) = true
is_there (array xs) = true
is_there (object ps) = true

-- what is found at a place; nothing is undefined
abbrev pub found : State → Place → Form
found state at = unwrap_or (option_and_then (led at.to) (get state at.name)) undefined

-- what stands alone
abbrev pub standing : State → Operand → Form
standing state (constant value) = value
standing state (found_at at) = found state at

-- each argument at its name
abbrev pub named : State → List Argument → List (KeyForm × Form)
named state given = map (λ a. (text_key (owned a.name), standing state a.value)) given

-- the map of the arguments: of two of one name the last value stands
abbrev pub arguments : State → List Argument → Form
arguments state given = object (members (put_all key_form_order [] (named state given)))

abbrev pub is_true : Form → Bool
is_true value = truthy_in (meaning value)

-- what is made of one value
abbrev pub made_of_one : Unary → Form → Result Form Refusal
made_of_one denied value = Ok (truth (not (is_true value)))
made_of_one opposite value = negated value
made_of_one is_defined value = Ok (truth (is_there value))

-- whether the first of two values settles what `or` and `and` are, and then the second is not
-- looked at
abbrev pub settled : Binary → Form → Option Bool
settled either value = if is_true value then Some true else None
settled both value = if is_true value then None else Some false
settled _ value = None

-- values of two ranks have no order
abbrev pub in_order : (Ordering → Bool) → Form → Form → Bool
in_order so l r =
    rank (meaning l) == rank (meaning r) && so (compare (meaning l) (meaning r))

-- what is made of two
abbrev pub made_of_two : Binary → Form → Form → Result Form Refusal
made_of_two either l r = Ok (truth (is_true r))
made_of_two both l r = Ok (truth (is_true r))
made_of_two within l r = each_ok (λ b. truth b) (holds r l)
made_of_two not_within l r = each_ok (λ b. truth (not b)) (holds r l)
made_of_two equal l r = Ok (truth (same (meaning l) (meaning r)))
made_of_two unequal l r = Ok (truth (not (same (meaning l) (meaning r))))
made_of_two less l r = Ok (truth (in_order is_lt l r))
made_of_two at_most l r = Ok (truth (in_order is_le l r))
made_of_two more l r = Ok (truth (in_order is_gt l r))
made_of_two at_least l r = Ok (truth (in_order is_ge l r))
made_of_two (arithmetic operator) l r = calculated operator l r

-- what is settled, or else what is made of both
abbrev pub unless_settled : Option Bool → Result Form Refusal → Result Form Refusal
unless_settled (Some b) later = Ok (truth b)
unless_settled None later = later

abbrev pub value_of : Expression → State → Result Form Refusal
value_of (operand o) state = Ok (standing state o)
value_of (one operator e) state = and_then (value_of e state) (made_of_one operator)
value_of (two operator e f) state =
    and_then (value_of e state) (λ l. unless_settled (settled operator l)
    (and_then (value_of f state) (made_of_two operator l)))
value_of (piped filter e given) state =
    and_then (value_of e state) (λ value. filtered filter value (arguments state given))
