-- A map of two pairs, as it is held.
use Rattle.std.specs.Prelude.{[], ◌∷◌, pos, codes}
use Rattle.tera.specs.Form.{Form}
use Rattle.tera.specs.Integer.{u64}
use Rattle.tera.specs.KeyMeaning.{text_key, borrowed}
use Rattle.tera.specs.Tree.{object, members}
use Rattle.tera.specs.View.{integer}

-- {"width": 80, "height": 24}
abbrev pub sizes : Form
sizes = object
    (members ((text_key (borrowed (codes "width")), integer u64 (pos 80))
    ∷ (text_key (borrowed (codes "height")), integer u64 (pos 24)) ∷ []))
