-- Arguments by their names.
use Rattle.std.specs.Prelude.{List, [], Option, Some, None, unwrap_or, ⊤}
use Rattle.tera_meaning.specs.Form.{Form}
use Rattle.tera_meaning.specs.KeyMeaning.{KeyForm}
use Rattle.tera_meaning.specs.Read.{members_in}

-- the pairs of the value that holds the arguments
abbrev pub pairs_held : Form → List (KeyForm × Form)
pairs_held value = unwrap_or (members_in value) []

-- what is taken of an argument, where it is there
abbrev pub TakesArgument : {V X : Type 0} → (V → X → Type 0) → Option V → Option X → Type 0
TakesArgument takes None None = ⊤
TakesArgument takes None (Some x) = ⊥
TakesArgument takes (Some value) None = ⊥
TakesArgument takes (Some value) (Some x) = takes value x
