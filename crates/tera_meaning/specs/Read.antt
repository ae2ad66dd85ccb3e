-- What readers and tests answer of a value.
use Rattle.std.specs.Prelude.{ℕ, ℤ, pos, negsuc, zero, suc, Bool, true, false, List, [], ◌∷◌}
use Rattle.std.specs.Prelude.{Option, Some, None, length}
use Rattle.std.specs.Str.{chars}
use Rattle.tera_meaning.specs.Form.{Form}
use Rattle.tera_meaning.specs.Meaning.{Meaning}
use Rattle.tera_meaning.specs.Tree.{Tree, undefined, none, truth, number, text, bytes, array}
use Rattle.tera_meaning.specs.Tree.{object, items_list, members_list}

module _ {N T K : Type 0} where
  -- the truth value, the bytes or the items that a value of that kind holds
  abbrev pub truth_in : Tree N T K → Option Bool
  truth_in undefined = None
  truth_in none = None
  truth_in (truth b) = Some b
  truth_in (number n) = None
  truth_in (text t) = None
  truth_in (bytes bs) = None
  truth_in (array xs) = None
  truth_in (object ps) = None

  abbrev pub bytes_in : Tree N T K → Option (List ℕ)
  bytes_in undefined = None
  bytes_in none = None
  bytes_in (truth b) = None
  bytes_in (number n) = None
  bytes_in (text t) = None
  bytes_in (bytes bs) = Some bs
  bytes_in (array xs) = None
  bytes_in (object ps) = None

  abbrev pub items_in : Tree N T K → Option (List (Tree N T K))
  items_in undefined = None
  items_in none = None
  items_in (truth b) = None
  items_in (number n) = None
  items_in (text t) = None
  items_in (bytes bs) = None
  items_in (array xs) = Some (items_list xs)
  items_in (object ps) = None

  -- the pairs that a map holds
  abbrev pub members_in : Tree N T K → Option (List (K × Tree N T K))
  members_in undefined = None
  members_in none = None
  members_in (truth b) = None
  members_in (number n) = None
  members_in (text t) = None
  members_in (bytes bs) = None
  members_in (array xs) = None
  members_in (object ps) = Some (members_list ps)

  -- whether a value has parts: the pairs of a map, items, bytes or characters
  abbrev pub iterable_in : Tree N T K → Bool
  iterable_in undefined = false
  iterable_in none = false
  iterable_in (truth b) = false
  iterable_in (number n) = false
  iterable_in (text t) = true
  iterable_in (bytes bs) = true
  iterable_in (array xs) = true
  iterable_in (object ps) = true

-- the number of an integer, whatever its kind
abbrev pub number_in : Form → Option ℤ
number_in undefined = None
number_in none = None
number_in (truth b) = None
number_in (number n) = Some n.value
number_in (text t) = None
number_in (bytes bs) = None
number_in (array xs) = None
number_in (object ps) = None

-- a text by its bytes, whatever its flag
abbrev pub text_in : Form → Option (List ℕ)
text_in undefined = None
text_in none = None
text_in (truth b) = None
text_in (number n) = None
text_in (text t) = Some t.spelled
text_in (bytes bs) = None
text_in (array xs) = None
text_in (object ps) = None

-- a text is safe by its flag; arrays, maps and bytes are not, and all else is
abbrev pub safe_in : Form → Bool
safe_in undefined = true
safe_in none = true
safe_in (truth b) = true
safe_in (number n) = true
safe_in (text t) = t.safe
safe_in (bytes bs) = false
safe_in (array xs) = false
safe_in (object ps) = false

-- a text with its flag set; every other value as it is
abbrev pub marked_safe : Form → Form
marked_safe undefined = undefined
marked_safe none = none
marked_safe (truth b) = truth b
marked_safe (number n) = number n
marked_safe (text t) = text (record { spelled = t.spelled; safe = true })
marked_safe (bytes bs) = bytes bs
marked_safe (array xs) = array xs
marked_safe (object ps) = object ps

abbrev pub is_nonzero : ℤ → Bool
is_nonzero (pos zero) = false
is_nonzero (pos (suc n)) = true
is_nonzero (negsuc n) = true

abbrev pub is_nonempty : {X : Type 0} → List X → Bool
is_nonempty [] = false
is_nonempty (x ∷ xs) = true

-- what counts as true: `true`, a number but 0, and what holds something
abbrev pub truthy_in : Meaning → Bool
truthy_in undefined = false
truthy_in none = false
truthy_in (truth b) = b
truthy_in (number z) = is_nonzero z
truthy_in (text t) = is_nonempty t
truthy_in (bytes bs) = is_nonempty bs
truthy_in (array xs) = is_nonempty (items_list xs)
truthy_in (object ps) = is_nonempty (members_list ps)

-- how many characters a text has, and how many bytes, items or pairs a value of these kinds
abbrev pub size_in : Meaning → Option ℕ
size_in undefined = None
size_in none = None
size_in (truth b) = None
size_in (number z) = None
size_in (text t) = Some (length (chars t))
size_in (bytes bs) = Some (length bs)
size_in (array xs) = Some (length (items_list xs))
size_in (object ps) = Some (length (members_list ps))
