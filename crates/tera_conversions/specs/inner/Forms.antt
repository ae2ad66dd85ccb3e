-- The entries of a map in the order of its keys, as they are held.
use Rattle.std.specs.Prelude.{List, map}
use Rattle.tera_meaning.specs.Form.{Form}
use Rattle.tera_meaning.specs.KeyMeaning.{KeyForm}
use Rattle.tera_values.specs.Key.{key_form}
use Rattle.tera_values.specs.declared.key.Key.{Key}

-- the entries with their keys as they are held
abbrev pub forms_of : List (Key × Form) → List (KeyForm × Form)
forms_of entries = map (λ e. (key_form e.0, e.1)) entries
