-- How a value is held: the tree with a kind at each number and a safe flag at each text.
use Rattle.std.specs.Prelude.{ℕ, Bool, List}
use Rattle.tera_meaning.specs.Integer.{Integer}
use Rattle.tera_meaning.specs.KeyMeaning.{KeyForm}
use Rattle.tera_meaning.specs.Tree.{Tree}

-- A text by its UTF-8 bytes, and whether it is marked safe
pub record MarkedText : Type 0 where
  pub spelled : List ℕ
  pub safe : Bool

abbrev pub Form : Type 0
Form = Tree Integer MarkedText KeyForm
