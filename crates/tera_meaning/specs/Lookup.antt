-- What is looked up in a value: the part that an attribute or an item names, and whether it holds a
-- value.
use Rattle.std.specs.Prelude.{ℕ, suc, ◌-◌, nat_lt, ◌==◌, ℤ, pos, negsuc, Bool, true, false, ◌&&◌}
use Rattle.std.specs.Prelude.{◌||◌, if◌then◌else◌, List, [], ◌∷◌, length, slice_get, Option, Some}
use Rattle.std.specs.Prelude.{None, is_some, unwrap_or, Result, Ok, Err}
use Rattle.std.specs.Char.{encode_utf8}
use Rattle.std.specs.List.{list_any}
use Rattle.std.specs.Option.{option_map, option_and_then, ok_or}
use Rattle.std.specs.Str.{chars}
use Rattle.tera_report.specs.Refusal.{Refusal, shape, Container, in_array, in_text, not_a_key}
use Rattle.tera_report.specs.Refusal.{not_a_map_key, not_an_index, not_a_container}
use Rattle.tera_meaning.specs.Form.{Form, MarkedText}
use Rattle.tera_meaning.specs.Kind.{kind_in, kind_name}
use Rattle.tera_meaning.specs.KeyMeaning.{KeyForm, truth_key, number_key, text_key, owned, borrowed}
use Rattle.tera_meaning.specs.Meaning.{meaning}
use Rattle.tera_meaning.specs.Order.{same}
use Rattle.tera_meaning.specs.Pairs.{key_form_order, value_at}
use Rattle.tera_meaning.specs.Read.{number_in, text_in}
use Rattle.tera_meaning.specs.Tree.{undefined, none, truth, number, text, bytes, array, object}
use Rattle.tera_meaning.specs.Tree.{items_list, members_list}

-- the name of a value's kind
abbrev pub name_of : Form → List ℕ
name_of value = kind_name (kind_in value)

-- the key that a value is: a truth value, an integer in its kind, a text
abbrev pub key_in : Form → Option KeyForm
key_in undefined = None
key_in none = None
key_in (truth b) = Some (truth_key b)
key_in (number n) = Some (number_key n)
key_in (text t) = Some (text_key (owned t.spelled))
key_in (bytes bs) = None
key_in (array xs) = None
key_in (object ps) = None

-- the key that a value is, or the refusal of a value that is none
abbrev pub as_key : Form → Result KeyForm Refusal
as_key value = ok_or (key_in value) not_a_key

-- what pairs have at a key, where there is one
abbrev pub paired : List (KeyForm × Form) → Option KeyForm → Option Form
paired ps None = None
paired ps (Some k) = value_at key_form_order ps k

-- what a map has at a text; nothing on other values
abbrev pub attr : Form → List ℕ → Option Form
attr undefined name = None
attr none name = None
attr (truth b) name = None
attr (number n) name = None
attr (text t) name = None
attr (bytes bs) name = None
attr (array xs) name = None
attr (object ps) name = paired (members_list ps) (Some (text_key (borrowed name)))

-- the place that an index names among so many, one below 0 being counted from the end
abbrev pub place_of : ℕ → ℤ → Option ℕ
place_of count (pos i) = if nat_lt i count then Some i else None
place_of count (negsuc i) = if nat_lt i count then Some (count - suc i) else None

-- the part at an index
abbrev pub part_at : {X : Type 0} → List X → ℤ → Option X
part_at xs index = option_and_then (slice_get xs) (place_of (length xs) index)

-- a character of a text, with its flag
abbrev pub character_of : MarkedText → ℕ → Form
character_of t c = text (record { spelled = encode_utf8 c; safe = t.safe })

-- the part of such a container at an index, undefined where there is none; or the refusal of no
-- integer
abbrev pub indexed : Container → Form → (ℤ → Option Form) → Result Form Refusal
indexed container index part =
    ok_or (option_map (λ z. unwrap_or (part z) undefined) (number_in index))
    (not_an_index container (name_of index))

-- what a value has at an item: a map at the key that it is, an array and a text at an index, and
-- undefined where there is nothing
abbrev pub item : Form → Form → Result Form Refusal
item undefined i = Ok undefined
item none i = Ok undefined
item (truth b) i = Ok undefined
item (number n) i = Ok undefined
item (text t) i = indexed in_text i (λ z. option_map (character_of t) (part_at (chars t.spelled) z))
item (bytes bs) i = Ok undefined
item (array xs) i = indexed in_array i (part_at (items_list xs))
item (object ps) i =
    ok_or (option_map (λ k. unwrap_or (value_at key_form_order (members_list ps) k) undefined)
    (key_in i))
    (not_a_map_key (name_of i))

-- the item of a value that it holds, and that is not made: what a map has at the key that the item
-- is, and an array at an index
abbrev pub held_item : Form → Form → Option Form
held_item undefined i = None
held_item none i = None
held_item (truth b) i = None
held_item (number n) i = None
held_item (text t) i = None
held_item (bytes bs) i = None
held_item (array xs) i = option_and_then (part_at (items_list xs)) (number_in i)
held_item (object ps) i = paired (members_list ps) (key_in i)

-- whether a text begins with another, and whether the other stands somewhere in it
abbrev pub begins_with : List ℕ → List ℕ → Bool
begins_with bs [] = true
begins_with [] (p ∷ part) = false
begins_with (b ∷ bs) (p ∷ part) = b == p && begins_with bs part

abbrev pub occurs : List ℕ → List ℕ → Bool
occurs part [] = begins_with [] part
occurs part (b ∷ bs) = begins_with (b ∷ bs) part || occurs part bs

-- whether a text holds the text that is looked for
abbrev pub text_holds : List ℕ → Option (List ℕ) → Bool
text_holds t None = false
text_holds t (Some part) = occurs part t

-- whether a container holds a value: an array an item of its meaning, a text that text as a part, a
-- map that key
abbrev pub holds : Form → Form → Result Bool Refusal
holds undefined x = Err (not_a_container (name_of undefined))
holds none x = Err (not_a_container (name_of none))
holds (truth b) x = Err (not_a_container (name_of (truth b)))
holds (number n) x = Err (not_a_container (name_of (number n)))
holds (text t) x = Ok (text_holds t.spelled (text_in x))
holds (bytes bs) x = Err (not_a_container (name_of (bytes bs)))
holds (array xs) x = Ok (list_any (λ y. same (meaning y) (meaning x)) (items_list xs))
holds (object ps) x = Ok (is_some (paired (members_list ps) (key_in x)))

-- what is given, seen by a function of it, or the shape of what is refused
abbrev pub seen_by : {X Y : Type 0} → (X → Y) → Result X Refusal → Result Y Refusal
seen_by f (Ok x) = Ok (f x)
seen_by f (Err refusal) = Err (shape refusal)
