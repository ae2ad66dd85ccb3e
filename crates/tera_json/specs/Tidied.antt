-- A document as it is once it was read and written again.
use Rattle.std.specs.Prelude.{ℕ, List, [], ◌∷◌, codes, if◌then◌else◌}
use Rattle.std.specs.Cmp.Lexicographic.{slice_cmp}
use Rattle.std.specs.Ordering.{nat_cmp}
use Rattle.std.specs.Str.{bytes_eq}
use Rattle.std.specs.declared.cmp.Ordering.{Ordering}
use Rattle.json.specs.Json.{Json, null, boolean, number, string, array, object, Items, no_items}
use Rattle.json.specs.Json.{item, Members, no_members, member}
use Rattle.tera_meaning.specs.Pairs.{put_all}

-- names by their bytes
abbrev pub name_order : List ℕ → List ℕ → Ordering
name_order = slice_cmp nat_cmp

abbrev pub members_from : List (List ℕ × Json) → Members
members_from [] = no_members
members_from (m ∷ ms) = member m.0 m.1 (members_from ms)

-- -0 is 0; of equal names the first has its place, and the last its value
abbrev mutual
  pub tidied : Json → Json
  tidied null = null
  tidied (boolean b) = boolean b
  tidied (number s) = number (if bytes_eq s (codes "-0") then codes "0" else s)
  tidied (string s) = string s
  tidied (array js) = array (tidied_items js)
  tidied (object ms) = object (members_from (put_all name_order [] (tidied_members ms)))

  pub tidied_items : Items → Items
  tidied_items no_items = no_items
  tidied_items (item j js) = item (tidied j) (tidied_items js)

  pub tidied_members : Members → List (List ℕ × Json)
  tidied_members no_members = []
  tidied_members (member name j ms) = (name, tidied j) ∷ tidied_members ms
