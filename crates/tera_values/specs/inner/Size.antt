-- How great a value is, so that it is greater than what it holds.
use Rattle.std.specs.Prelude.{ℕ, ◌+◌, ◌*◌, List}
use Rattle.tera_meaning.specs.Form.{Form}
use Rattle.tera_meaning.specs.KeyMeaning.{KeyForm}
use Rattle.tera_meaning.specs.Tree.{members, depth, members_depth}

-- the lists of a map are greater than its values, a map than its lists, and a value than the map
-- that it holds
abbrev pub value_size : Form → ℕ
value_size v = 3 * depth v

abbrev pub pairs_size : List (KeyForm × Form) → ℕ
pairs_size ps = 3 * members_depth (members ps) + 2

abbrev pub columns_size : List (KeyForm × Form) → ℕ
columns_size ps = 3 * members_depth (members ps) + 1
