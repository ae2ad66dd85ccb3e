-- What a path leads to: its elements in turn, each a place in an array or a text key of a map.
use Rattle.std.specs.Prelude.{◌≡◌, ◌≢◌, ◌⊎◌, ℕ, ◌^◌, ◌<◌, nat_lt, ◌==◌, ◌&&◌, true, if◌then◌else◌}
use Rattle.std.specs.Prelude.{List, [], ◌∷◌, Option, Some, None, slice_get}
use Rattle.std.specs.Option.{option_and_then}
use Rattle.std.specs.Str.{all_ascii_digits}
use Rattle.std.specs.Str.Parse.{digits_value}
use Rattle.tera_report.specs.Parts.{AreParts, parts_of}
use Rattle.tera_meaning.specs.Form.{Form}
use Rattle.tera_meaning.specs.Lookup.{attr}
use Rattle.tera_meaning.specs.Read.{items_in, is_nonempty}
use Rattle.tera_meaning.specs.Tree.{undefined, none, truth, number, text, bytes, array, object}

-- the character `.`, and `+`
abbrev pub dot : ℕ
dot = 46

abbrev pub plus : ℕ
plus = 43

-- these are the elements of a path: at least one, none with a `.`, and joined by `.` they are the
-- path
abbrev pub AreElements : List ℕ → List (List ℕ) → Type 0
AreElements path elements = AreParts dot path elements

-- the elements of a path, which are these alone
abbrev pub elements_of : List ℕ → List (List ℕ)
elements_of path = parts_of dot path

-- an element is a place: one `+` or none, and then one or more ASCII digits, of a number below 2^64
abbrev pub IsPlace : List ℕ → ℕ → Type 0
IsPlace element n =
    (digits : List ℕ) × ((element ≡ digits) ⊎ (element ≡ plus ∷ digits)) × (digits ≢ [])
    × (all_ascii_digits digits ≡ true) × (digits_value 10 digits ≡ n) × (n < 2 ^ 64)

-- the text without one `+` at its front
abbrev pub without_plus : List ℕ → List ℕ
without_plus [] = []
without_plus (b ∷ bs) = if b == plus then bs else b ∷ bs

-- the number that digits write, where they write one below 2^64
abbrev pub place_of_digits : List ℕ → Option ℕ
place_of_digits digits =
    if is_nonempty digits && (all_ascii_digits digits && nat_lt (digits_value 10 digits) (2 ^ 64))
    then Some (digits_value 10 digits) else None

-- the place that an element is, if it is one
abbrev pub place : List ℕ → Option ℕ
place element = place_of_digits (without_plus element)

-- what is reached by an element that is a place, and by one that is none
abbrev pub reached : Form → List ℕ → Option ℕ → Option Form
reached value element None = attr value element
reached value element (Some n) = option_and_then (λ xs. slice_get xs n) (items_in value)

-- what is reached by elements in turn
abbrev pub followed : Form → List (List ℕ) → Option Form
followed value [] = Some value
followed value (element ∷ more) =
    option_and_then (λ part. followed part more) (reached value element (place element))

-- what a path leads to: from undefined to nothing, from none to itself, and from all else by its
-- elements
abbrev pub path : Form → List ℕ → Option Form
path undefined p = None
path none p = Some none
path (truth b) p = followed (truth b) (elements_of p)
path (number n) p = followed (number n) (elements_of p)
path (text t) p = followed (text t) (elements_of p)
path (bytes bs) p = followed (bytes bs) (elements_of p)
path (array xs) p = followed (array xs) (elements_of p)
path (object ps) p = followed (object ps) (elements_of p)
