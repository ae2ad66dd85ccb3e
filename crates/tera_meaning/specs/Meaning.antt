-- How values are laid out, and what they mean: trees of bare numbers, texts and key meanings.
use Rattle.std.specs.Prelude.{ℕ, ℤ, List, [], ◌∷◌}
use Rattle.tera_meaning.specs.Form.{Form}
use Rattle.tera_meaning.specs.KeyMeaning.{KeyForm, KeyMeaning, key_meaning, key_order}
use Rattle.tera_meaning.specs.Pairs.{rising}
use Rattle.tera_meaning.specs.Tree.{Tree, Items, Members, undefined, none, truth, number, text}
use Rattle.tera_meaning.specs.Tree.{bytes, array, object, no_items, item, no_members, member}
use Rattle.tera_meaning.specs.Tree.{members, relabeled}

-- the pairs of a layout's maps stand in the order of insertion, those of a meaning's in the order
-- of their keys
abbrev pub Layout : Type 0
Layout = Tree ℤ (List ℕ) KeyMeaning

abbrev pub Meaning : Type 0
Meaning = Tree ℤ (List ℕ) KeyMeaning

-- forgets kinds of integers, and safe flags
abbrev pub layout : Form → Layout
layout v = relabeled (λ n. n.value) (λ t. t.spelled) key_meaning v

-- puts the pairs of each map, at every depth, into the places of their keys
abbrev mutual
  pub sorted : Layout → Meaning
  sorted undefined = undefined
  sorted none = none
  sorted (truth b) = truth b
  sorted (number z) = number z
  sorted (text t) = text t
  sorted (bytes bs) = bytes bs
  sorted (array xs) = array (sorted_items xs)
  sorted (object ps) = object (members (rising key_order (sorted_pairs ps)))

  pub sorted_items : Items ℤ (List ℕ) KeyMeaning → Items ℤ (List ℕ) KeyMeaning
  sorted_items no_items = no_items
  sorted_items (item x xs) = item (sorted x) (sorted_items xs)

  -- the pairs where they stood, with what their values mean
  pub sorted_pairs : Members ℤ (List ℕ) KeyMeaning → List (KeyMeaning × Meaning)
  sorted_pairs no_members = []
  sorted_pairs (member k x ps) = (k, sorted x) ∷ sorted_pairs ps

-- what a value means: its layout, whatever order the pairs of its maps stand in
abbrev pub meaning : Form → Meaning
meaning v = sorted (layout v)

abbrev pub pair_meaning : KeyForm × Form → KeyMeaning × Meaning
pair_meaning pair = (key_meaning pair.0, meaning pair.1)

-- what a map that holds the entries means
abbrev pub map_meaning : List (KeyForm × Form) → Meaning
map_meaning entries = meaning (object (members entries))
