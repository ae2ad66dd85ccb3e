-- Literals: how a script spells a value.
use Rattle.std.specs.Prelude.{◌≡◌, ◌<◌, ◌+◌, ◌*◌, ℕ, Bool, true, false, List, [], ◌∷◌, ◌++◌}
use Rattle.std.specs.Prelude.{cond, Option, None, Some, codes}
use Rattle.std.specs.Char.{digit_value}
use Rattle.std.specs.Ordering.{eq_by_cmp}
use Rattle.tera_meaning.specs.Tree.{Items, Members, undefined, none, truth, number, text, bytes}
use Rattle.tera_meaning.specs.Tree.{array, object, no_items, item, no_members, member, members}
use Rattle.tera_meaning.specs.Form.{Form, MarkedText}
use Rattle.tera_meaning.specs.Integer.{Integer}
use Rattle.tera_meaning.specs.KeyMeaning.{KeyForm, truth_key, number_key, text_key, owned, borrowed}
use Rattle.tera_meaning.specs.Pairs.{key_form_order, put_all}
use Rattle.tera_script.specs.Number.{SpellsNumber}
use Rattle.tera_script.specs.Text.{SpellsText}
use Rattle.tera_script.specs.Word.{AreBlanks}

-- what stands before the opening quote of a text: an s where the text is safe
abbrev pub mark_of : Bool → List ℕ
mark_of true = codes "s"
mark_of false = []

-- a quote is the byte 34. What stands between two spells the text
abbrev pub SpellsMarkedText : List ℕ → MarkedText → Type 0
SpellsMarkedText literal t = (inner : List ℕ) × SpellsText inner t.spelled
    × (literal ≡ mark_of t.safe ++ (34 ∷ inner) ++ (34 ∷ []))

-- a hexadecimal digit, of either case
abbrev pub IsHexDigit : ℕ → Type 0
IsHexDigit b = digit_value b < 16

-- two digits for each byte, the higher first
abbrev pub SpellsBytes : List ℕ → List ℕ → Type 0
SpellsBytes digits [] = digits ≡ []
SpellsBytes digits (b ∷ bs) = (high low : ℕ) × (rest : List ℕ) × IsHexDigit high × IsHexDigit low
    × (b ≡ digit_value high * 16 + digit_value low) × SpellsBytes rest bs
    × (digits ≡ high ∷ low ∷ rest)

-- blanks may stand before it and after it
abbrev pub IsPadded : (List ℕ → Type 0) → List ℕ → Type 0
IsPadded P padded = (before inside after : List ℕ) × AreBlanks before × P inside × AreBlanks after
    × (padded ≡ before ++ (inside ++ after))

-- a truth value by its word
abbrev pub SpellsTruth : List ℕ → Bool → Type 0
SpellsTruth literal true = literal ≡ codes "true"
SpellsTruth literal false = literal ≡ codes "false"

-- a key: a truth value, a number, or a text that is not marked safe, which the key owns
abbrev pub SpellsKey : List ℕ → KeyForm → Type 0
SpellsKey literal (truth_key b) = SpellsTruth literal b
SpellsKey literal (number_key n) = SpellsNumber literal n
SpellsKey literal (text_key (owned t)) = SpellsMarkedText literal
    (record { spelled = t; safe = false })
SpellsKey literal (text_key (borrowed t)) = ⊥

-- a key, a colon (58) and what is paired with it, each with blanks around it or none
abbrev pub IsPair : (List ℕ → Type 0) → (List ℕ → Type 0) → List ℕ → Type 0
IsPair K V pair = (first second : List ℕ) × IsPadded K first × IsPadded V second
    × (pair ≡ first ++ 58 ∷ second)

-- a literal as a tree, in which the pairs of a map stand as they are written. Bytes stand in quotes
-- behind an x (120), an array's items between brackets (91 and 93), and a map's pairs between
-- braces (123 and 125)
abbrev mutual
  pub SpellsTree : List ℕ → Form → Type 0
  SpellsTree literal undefined = literal ≡ codes "undefined"
  SpellsTree literal none = literal ≡ codes "none"
  SpellsTree literal (truth b) = SpellsTruth literal b
  SpellsTree literal (number n) = SpellsNumber literal n
  SpellsTree literal (text t) = SpellsMarkedText literal t
  SpellsTree literal (bytes bs) = (digits : List ℕ) × SpellsBytes digits bs
      × (literal ≡ 120 ∷ 34 ∷ (digits ++ 34 ∷ []))
  SpellsTree literal (array xs) = (inner : List ℕ) × SpellsItems inner xs
      × (literal ≡ 91 ∷ (inner ++ 93 ∷ []))
  SpellsTree literal (object ps) = (inner : List ℕ) × SpellsPairs inner ps
      × (literal ≡ 123 ∷ (inner ++ 125 ∷ []))

  -- what stands between the brackets
  pub SpellsItems : List ℕ → Items Integer MarkedText KeyForm → Type 0
  SpellsItems inner no_items = AreBlanks inner
  SpellsItems inner (item x xs) = (first more : List ℕ) × IsPadded (λ literal. SpellsTree literal x)
      first × SpellsMore more xs × (inner ≡ first ++ more)

  -- each further item behind a comma (44)
  pub SpellsMore : List ℕ → Items Integer MarkedText KeyForm → Type 0
  SpellsMore more no_items = more ≡ []
  SpellsMore more (item x xs) = (first rest : List ℕ) × IsPadded (λ literal. SpellsTree literal x)
      first × SpellsMore rest xs × (more ≡ 44 ∷ (first ++ rest))

  -- what stands between the braces
  pub SpellsPairs : List ℕ → Members Integer MarkedText KeyForm → Type 0
  SpellsPairs inner no_members = AreBlanks inner
  SpellsPairs inner (member k x ps) = (first more : List ℕ)
      × IsPair (λ literal. SpellsKey literal k) (λ literal. SpellsTree literal x) first
      × SpellsMorePairs more ps × (inner ≡ first ++ more)

  -- each further pair behind a comma
  pub SpellsMorePairs : List ℕ → Members Integer MarkedText KeyForm → Type 0
  SpellsMorePairs more no_members = more ≡ []
  SpellsMorePairs more (member k x ps) = (first rest : List ℕ)
      × IsPair (λ literal. SpellsKey literal k) (λ literal. SpellsTree literal x) first
      × SpellsMorePairs rest ps × (more ≡ 44 ∷ (first ++ rest))

-- the pairs of a map from those that are written, put one after another: of equal keys the first
-- stands in its place, with the last value
abbrev pub in_places : List (KeyForm × Form) → List (KeyForm × Form)
in_places written = put_all key_form_order [] written

-- the first key of some pairs that is equal to this one, as it is held
abbrev pub key_at : List (KeyForm × Form) → KeyForm → Option KeyForm
key_at [] k = None
key_at (p ∷ ps) k = cond (eq_by_cmp key_form_order k p.0) (Some p.0) (key_at ps k)

-- the value that is written as a tree
abbrev mutual
  pub tree_value : Form → Form
  tree_value undefined = undefined
  tree_value none = none
  tree_value (truth b) = truth b
  tree_value (number n) = number n
  tree_value (text t) = text t
  tree_value (bytes bs) = bytes bs
  tree_value (array xs) = array (item_values xs)
  tree_value (object ps) = object (members (in_places (pair_values ps)))

  pub item_values : Items Integer MarkedText KeyForm → Items Integer MarkedText KeyForm
  item_values no_items = no_items
  item_values (item x xs) = item (tree_value x) (item_values xs)

  pub pair_values : Members Integer MarkedText KeyForm → List (KeyForm × Form)
  pair_values no_members = []
  pair_values (member k x ps) = (k, tree_value x) ∷ pair_values ps

-- a literal spells the value of its tree
abbrev pub SpellsLiteral : List ℕ → Form → Type 0
SpellsLiteral literal value = (tree : Form) × SpellsTree literal tree × (value ≡ tree_value tree)
