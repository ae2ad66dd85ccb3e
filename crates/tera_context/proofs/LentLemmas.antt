-- What is lent stands for outcomes of the command.
use Rattle.std.specs.Prelude.{◌≡◌, None, refl}
use Rattle.tera_meaning.specs.Form.{Form}
use Rattle.tera_meaning.specs.Lookup.{held_item}
use Rattle.tera_meaning.specs.Tree.{undefined, array, object}

-- no value holds an item at undefined
pub none_at_undefined : (v : Form) → held_item v undefined ≡ None
none_at_undefined (array xs) = refl
none_at_undefined (object ps) = refl
none_at_undefined v = refl
