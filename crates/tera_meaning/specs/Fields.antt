-- The names of a map's fields.
use Rattle.std.specs.Prelude.{◌↔◌, ℕ, List, [], ◌∷◌, map}
use Rattle.std.specs.BTreeSet.{insert_key}
use Rattle.std.specs.Cmp.Lexicographic.{slice_cmp}
use Rattle.std.specs.List.{Contains}
use Rattle.std.specs.List.Sorted.{IsStrictlySortedBy}
use Rattle.std.specs.Ordering.{nat_cmp}
use Rattle.tera_meaning.specs.Form.{Form}
use Rattle.tera_meaning.specs.KeyMeaning.{KeyForm, key_meaning}
use Rattle.tera_meaning.specs.Printed.{shown_key}
use Rattle.tera_meaning.specs.Tree.{undefined, none, truth, number, text, bytes, array, object}
use Rattle.tera_meaning.specs.Tree.{members_list}

-- the texts that the keys of pairs print
abbrev pub shown_keys : {V : Type 0} → List (KeyForm × V) → List (List ℕ)
shown_keys ps = map (λ p. shown_key (key_meaning p.0)) ps

-- what the keys of a map print, one text for each pair and along them; nothing of other values
abbrev pub shown_in : Form → List (List ℕ)
shown_in undefined = []
shown_in none = []
shown_in (truth b) = []
shown_in (number n) = []
shown_in (text t) = []
shown_in (bytes bs) = []
shown_in (array xs) = []
shown_in (object ps) = shown_keys (members_list ps)

-- texts in the order of their bytes, each less than every later one, and just those of a list
abbrev pub AreRisingOf : List (List ℕ) → List (List ℕ) → Type 0
AreRisingOf texts names =
    IsStrictlySortedBy (slice_cmp nat_cmp) names
    × ((t : List ℕ) → Contains names t ↔ Contains texts t)

-- the texts of a list in their places
abbrev pub rising_texts : List (List ℕ) → List (List ℕ)
rising_texts [] = []
rising_texts (t ∷ texts) = insert_key (slice_cmp nat_cmp) (rising_texts texts) t

-- the names of a value's fields: what the keys of a map print, each once and in order
abbrev pub fields : Form → List (List ℕ)
fields value = rising_texts (shown_in value)
