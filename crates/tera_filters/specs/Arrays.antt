-- What filters make of arrays and of maps.
use Rattle.std.specs.Prelude.{ℕ, ◌-◌, List, [], ◌∷◌, ◌++◌, length, codes, slice_get, pos}
use Rattle.std.specs.Prelude.{Bool, not, Option, None, Result, unwrap_or}
use Rattle.std.specs.List.{filter, list_any}
use Rattle.std.specs.Option.{ok_or, option_map, option_or}
use Rattle.std.specs.Ordering.{is_lt}
use Rattle.tera.specs.Arithmetic.{and_then, each_ok}
use Rattle.tera.specs.Conversion.{IntegerType, converted}
use Rattle.tera.specs.Form.{Form}
use Rattle.tera.specs.Integer.{u64}
use Rattle.tera.specs.Lookup.{attr, name_of}
use Rattle.tera.specs.Meaning.{meaning}
use Rattle.tera.specs.Order.{compare, same}
use Rattle.tera.specs.Read.{size_in}
use Rattle.tera.specs.Refusal.{Refusal, message, wrong_kind}
use Rattle.tera.specs.Slice.{sliced}
use Rattle.tera.specs.SliceRule.{item_at}
use Rattle.tera.specs.Taken.{as_items, as_pairs, as_text}
use Rattle.tera.specs.Tree.{undefined, array, items}
use Rattle.tera.specs.View.{integer}
use Rattle.tera_filters.specs.Arguments.{needed, optional}
use Rattle.tera_filters.specs.Sorting.{in_order}

abbrev pub no_length : List ℕ → Refusal
no_length actual = wrong_kind (codes "Value of type ") actual (codes " has no length")

-- how many characters a text has, items an array, pairs a map, bytes bytes
abbrev pub length_of : Form → Result Form Refusal
length_of value =
    ok_or (option_map (λ n. integer u64 (pos n)) (size_in (meaning value)))
    (no_length (name_of value))

-- an item, undefined where there is none
abbrev pub or_undefined : Option Form → Form
or_undefined found = unwrap_or found undefined

abbrev pub first_of : Form → Result Form Refusal
first_of value = each_ok (λ xs. or_undefined (slice_get xs 0)) (as_items value)

abbrev pub last_of : Form → Result Form Refusal
last_of value = each_ok (λ xs. or_undefined (slice_get xs (length xs - 1))) (as_items value)

-- the item behind as many others as the argument `n` says
abbrev pub nth_of : Form → Form → Result Form Refusal
nth_of value arguments =
    and_then (as_items value)
    (λ xs. each_ok (λ n. or_undefined (item_at xs n))
    (needed (converted IntegerType.usize) arguments (codes "n")))

-- the slice between the arguments `start` and `end`, each of which may be left out
abbrev pub slice_of : Form → Form → Result Form Refusal
slice_of value arguments =
    and_then (optional (converted IntegerType.i128) arguments (codes "start"))
    (λ start. and_then (optional (converted IntegerType.i128) arguments (codes "end"))
    (λ end. sliced value start end None))

abbrev pub no_key : List ℕ → Refusal
no_key key = message (codes "The map has no key `" ++ (key ++ codes "`"))

-- what a map has at the argument `key`, or where it has nothing there the argument `default`
abbrev pub get_of : Form → Form → Result Form Refusal
get_of value arguments =
    and_then (as_pairs value) (λ pairs. and_then (needed as_text arguments (codes "key"))
    (λ key. ok_or (option_or (attr value key) (attr arguments (codes "default"))) (no_key key)))

-- the order in which values are sorted: that of their meanings
abbrev pub is_less : Form → Form → Bool
is_less x y = is_lt (compare (meaning x) (meaning y))

-- the items in that order, those of one meaning as they stood
abbrev pub sort_of : Form → Result Form Refusal
sort_of value = each_ok (λ xs. array (items (in_order is_less xs))) (as_items value)

-- whether two values mean the same, and whether some value means the same as one
abbrev pub mean_same : Form → Form → Bool
mean_same x y = same (meaning x) (meaning y)

abbrev pub has_same : List Form → Form → Bool
has_same xs x = list_any (mean_same x) xs

-- the values of which no earlier one means the same
abbrev pub first_ones : List Form → List Form
first_ones [] = []
first_ones (x ∷ xs) = x ∷ filter (λ y. not (mean_same x y)) (first_ones xs)

abbrev pub unique_of : Form → Result Form Refusal
unique_of value = each_ok (λ xs. array (items (first_ones xs))) (as_items value)
