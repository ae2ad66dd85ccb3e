-- A map of an array of a map, as it is held.
use Rattle.std.specs.Prelude.{[], ◌∷◌, pos, false, codes}
use Rattle.tera.specs.Form.{Form}
use Rattle.tera.specs.Integer.{u64}
use Rattle.tera.specs.KeyMeaning.{text_key, borrowed}
use Rattle.tera.specs.Tree.{array, object, items, members}
use Rattle.tera.specs.View.{integer, marked}

-- {"b": "x"}
abbrev pub inner : Form
inner = object (members ((text_key (borrowed (codes "b")), marked (codes "x") false) ∷ []))

-- {"a": [1, {"b": "x"}]}
abbrev pub nested : Form
nested = object
    (members ((text_key (borrowed (codes "a")), array (items (integer u64 (pos 1) ∷ inner ∷ [])))
    ∷ []))
