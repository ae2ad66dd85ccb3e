-- Values as trees: one shape for what a value means and for how it is held.
use Rattle.std.specs.Prelude.{ℕ, suc, max, Bool, List, [], ◌∷◌}

-- N stands at a number, T at a text, and K at the key of a map's pair
mutual
  pub data Tree (N T K : Type 0) : Type 0 where
    undefined : Tree N T K
    none : Tree N T K
    truth : Bool → Tree N T K
    number : N → Tree N T K
    text : T → Tree N T K
    bytes : List ℕ → Tree N T K
    array : Items N T K → Tree N T K
    object : Members N T K → Tree N T K

  pub data Items (N T K : Type 0) : Type 0 where
    no_items : Items N T K
    item : Tree N T K → Items N T K → Items N T K

  pub data Members (N T K : Type 0) : Type 0 where
    no_members : Members N T K
    member : K → Tree N T K → Members N T K → Members N T K

module _ {N T K : Type 0} where
  -- the items as a list, and back
  abbrev pub items : List (Tree N T K) → Items N T K
  items [] = no_items
  items (x ∷ xs) = item x (items xs)

  abbrev pub items_list : Items N T K → List (Tree N T K)
  items_list no_items = []
  items_list (item x xs) = x ∷ items_list xs

  -- the pairs as a list, and back
  abbrev pub members : List (K × Tree N T K) → Members N T K
  members [] = no_members
  members (p ∷ ps) = member p.0 p.1 (members ps)

  abbrev pub members_list : Members N T K → List (K × Tree N T K)
  members_list no_members = []
  members_list (member k x ps) = (k, x) ∷ members_list ps

  -- how deep arrays and maps nest
  abbrev mutual
    pub depth : Tree N T K → ℕ
    depth undefined = 0
    depth none = 0
    depth (truth b) = 0
    depth (number n) = 0
    depth (text t) = 0
    depth (bytes bs) = 0
    depth (array xs) = suc (items_depth xs)
    depth (object ps) = suc (members_depth ps)

    pub items_depth : Items N T K → ℕ
    items_depth no_items = 0
    items_depth (item x xs) = max (depth x) (items_depth xs)

    pub members_depth : Members N T K → ℕ
    members_depth no_members = 0
    members_depth (member k x ps) = max (depth x) (members_depth ps)

-- the tree of the same shape with f at each number, g at each text and h at each key
module _ {N T K N' T' K' : Type 0} (f : N → N') (g : T → T') (h : K → K') where
  abbrev mutual
    pub relabeled : Tree N T K → Tree N' T' K'
    relabeled undefined = undefined
    relabeled none = none
    relabeled (truth b) = truth b
    relabeled (number n) = number (f n)
    relabeled (text t) = text (g t)
    relabeled (bytes bs) = bytes bs
    relabeled (array xs) = array (relabeled_items xs)
    relabeled (object ps) = object (relabeled_members ps)

    pub relabeled_items : Items N T K → Items N' T' K'
    relabeled_items no_items = no_items
    relabeled_items (item x xs) = item (relabeled x) (relabeled_items xs)

    pub relabeled_members : Members N T K → Members N' T' K'
    relabeled_members no_members = no_members
    relabeled_members (member k x ps) = member (h k) (relabeled x) (relabeled_members ps)
