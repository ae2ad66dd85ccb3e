-- Which values hold others.
use Rattle.std.specs.Prelude.{Bool, true, false}
use Rattle.tera_meaning.specs.Form.{Form}
use Rattle.tera_meaning.specs.Tree.{undefined, none, truth, number, text, bytes, array, object}

abbrev pub holds_values : Form → Bool
holds_values undefined = false
holds_values none = false
holds_values (truth b) = false
holds_values (number n) = false
holds_values (text t) = false
holds_values (bytes bs) = false
holds_values (array xs) = true
holds_values (object ps) = true
