-- Places in a document, as JSON pointers (RFC 6901).
use Rattle.std.specs.Prelude.{ℕ, List, ◌++◌, ◌==◌, if◌then◌else◌, codes, decimal}
use Rattle.std.specs.Char.{encode_utf8}
use Rattle.std.specs.List.{flat_map}
use Rattle.std.specs.Str.{chars}

-- a character of a name: `~` (126) is `~0`, and `/` (47) is `~1`
abbrev pub pointed : ℕ → List ℕ
pointed c = if c == 126 then codes "~0" else (if c == 47 then codes "~1" else encode_utf8 c)

-- a step to a member by its name, and to an item by its number, which begins at 0
abbrev pub name_step : List ℕ → List ℕ
name_step name = codes "/" ++ flat_map pointed (chars name)

abbrev pub item_step : ℕ → List ℕ
item_step n = codes "/" ++ decimal n
