-- Items and members as lists, and back.
use Rattle.std.specs.Prelude.{◌≡◌, List, [], ◌∷◌, map, refl}
use Rattle.std.proofs.Common.{ap}
use Rattle.tera_meaning.specs.Tree.{Tree, Items, Members, no_items, item, no_members, member, items, items_list, members, members_list, relabeled}
use Rattle.tera_meaning.specs.Tree.{relabeled_items, relabeled_members}

module _ {N T K : Type 0} where
  pub items_of_list : (xs : Items N T K) → items (items_list xs) ≡ xs
  items_of_list no_items = refl
  items_of_list (item x xs) = ap (item x) (items_of_list xs)

  pub list_of_items : (xs : List (Tree N T K)) → items_list (items xs) ≡ xs
  list_of_items [] = refl
  list_of_items (x ∷ xs) = ap (λ ys. x ∷ ys) (list_of_items xs)

  pub members_of_list : (ps : Members N T K) → members (members_list ps) ≡ ps
  members_of_list no_members = refl
  members_of_list (member k x ps) = ap (member k x) (members_of_list ps)

  pub list_of_members : (ps : List (K × Tree N T K)) → members_list (members ps) ≡ ps
  list_of_members [] = refl
  list_of_members (p ∷ ps) = ap (λ qs. p ∷ qs) (list_of_members ps)

module _ {N T K N' T' K' : Type 0} (f : N → N') (g : T → T') (h : K → K') where
  pub items_relabeled : (xs : List (Tree N T K)) → relabeled_items f g h (items xs) ≡ items (map (relabeled f g h) xs)
  items_relabeled [] = refl
  items_relabeled (x ∷ xs) = ap (item (relabeled f g h x)) (items_relabeled xs)

  pub members_relabeled : (ps : List (K × Tree N T K)) → relabeled_members f g h (members ps) ≡ members (map (λ p. (h p.0, relabeled f g h p.1)) ps)
  members_relabeled [] = refl
  members_relabeled (p ∷ ps) = ap (member (h p.0) (relabeled f g h p.1)) (members_relabeled ps)
