-- What a literal spells has keys that own their texts, so it is written and read as that very form.
use Rattle.std.proofs.Common.{◌≡◌, ℕ, Bool, true, false, if◌then◌else◌, List, [], ◌∷◌, refl, sym, ap, ap₂, subst, ◌∙◌}
use Rattle.std.specs.List.{AllByRecursion}
use Rattle.std.specs.Ordering.{eq_by_cmp}
use Rattle.tera_meaning.specs.Form.{Form, MarkedText}
use Rattle.tera_meaning.specs.Integer.{Integer}
use Rattle.tera_meaning.specs.KeyMeaning.{KeyForm, truth_key, number_key, text_key, owned, borrowed}
use Rattle.tera_meaning.specs.Pairs.{key_form_order, put, put_all}
use Rattle.tera_meaning.specs.Tree.{Items, Members, undefined, none, truth, number, text, bytes, array, object, no_items, item, no_members, member, members}
use Rattle.tera_meaning.specs.Tree.{relabeled_items, relabeled_members}
use Rattle.tera_meaning.specs.WellMade.{IsWellMade}
use Rattle.tera_script.specs.Literal.{SpellsKey, SpellsTree, SpellsItems, SpellsMore, SpellsPairs, SpellsMorePairs, SpellsLiteral, in_places, tree_value}
use Rattle.tera_script.specs.Literal.{item_values, pair_values}
use Rattle.tera_script.specs.Written.{literal_of, owned_key, owned_form}
use Rattle.tera_script.proofs.Written.{literal_spelled}

-- the pair has a key that owns its text, and so have all maps of its value
abbrev IsOwned : KeyForm × Form → Type 0
IsOwned p = (owned_key p.0 ≡ p.0) × (owned_form p.1 ≡ p.1)

AreOwned : List (KeyForm × Form) → Type 0
AreOwned ps = AllByRecursion IsOwned ps

key_owned : (k : KeyForm) (literal : List ℕ) → SpellsKey literal k → owned_key k ≡ k
key_owned (truth_key b) literal h = refl
key_owned (number_key n) literal h = refl
key_owned (text_key (owned t)) literal h = refl
key_owned (text_key (borrowed t)) literal h = absurd h

put_owned : (ps : List (KeyForm × Form)) (k : KeyForm) (v : Form) → AreOwned ps → IsOwned (k, v) → AreOwned (put key_form_order ps k v)
unfolding AreOwned
put_owned [] k v h p = (p, tt)
put_owned (q ∷ ps) k v h p =
    elim (eq_by_cmp key_form_order k q.0) as (λ b. AllByRecursion IsOwned (if b then (q.0, v) ∷ ps else q ∷ put key_form_order ps k v)) [
      | true ↦ ((h.0.0, p.1), h.1)
      | false ↦ (h.0, put_owned ps k v h.1 p)
    ]

all_owned : (ps es : List (KeyForm × Form)) → AreOwned ps → AreOwned es → AreOwned (put_all key_form_order ps es)
unfolding AreOwned
all_owned ps [] h k = h
all_owned ps (e ∷ es) h k = all_owned (put key_form_order ps e.0 e.1) es (put_owned ps e.0 e.1 h k.0) k.1

members_owned : (ps : List (KeyForm × Form)) → AreOwned ps → relabeled_members (λ n. n) (λ t. t) owned_key (members ps) ≡ members ps
unfolding AreOwned
members_owned [] h = refl
members_owned (p ∷ ps) h = λ i. member (h.0.0 i) (h.0.1 i) (members_owned ps h.1 i)

mutual
  unfolding AreOwned

  tree_owned : (tree : Form) (literal : List ℕ) → SpellsTree literal tree → owned_form (tree_value tree) ≡ tree_value tree
  tree_owned undefined literal h = refl
  tree_owned none literal h = refl
  tree_owned (truth b) literal h = refl
  tree_owned (number n) literal h = refl
  tree_owned (text t) literal h = refl
  tree_owned (bytes bs) literal h = refl
  tree_owned (array xs) literal h = ap array (items_owned xs h.0 h.1)
  tree_owned (object ps) literal h = ap object (members_owned (in_places (pair_values ps)) (all_owned [] (pair_values ps) tt (pairs_owned ps h.0 h.1)))

  items_owned : (xs : Items Integer MarkedText KeyForm) (inner : List ℕ) → SpellsItems inner xs
      → relabeled_items (λ n. n) (λ t. t) owned_key (item_values xs) ≡ item_values xs
  items_owned no_items inner h = refl
  items_owned (item x xs) inner h = ap₂ item (tree_owned x h.2.1 h.2.4) (more_owned xs h.1 h.3)

  more_owned : (xs : Items Integer MarkedText KeyForm) (inner : List ℕ) → SpellsMore inner xs
      → relabeled_items (λ n. n) (λ t. t) owned_key (item_values xs) ≡ item_values xs
  more_owned no_items inner h = refl
  more_owned (item x xs) inner h = ap₂ item (tree_owned x h.2.1 h.2.4) (more_owned xs h.1 h.3)

  pairs_owned : (ps : Members Integer MarkedText KeyForm) (inner : List ℕ) → SpellsPairs inner ps → AreOwned (pair_values ps)
  pairs_owned no_members inner h = tt
  pairs_owned (member k x ps) inner h =
      ((key_owned k h.2.2.1 h.2.2.4, tree_owned x h.2.3.1 h.2.3.4), more_pairs_owned ps h.1 h.3)

  more_pairs_owned : (ps : Members Integer MarkedText KeyForm) (inner : List ℕ) → SpellsMorePairs inner ps → AreOwned (pair_values ps)
  more_pairs_owned no_members inner h = tt
  more_pairs_owned (member k x ps) inner h =
      ((key_owned k h.2.2.1 h.2.2.4, tree_owned x h.2.3.1 h.2.3.4), more_pairs_owned ps h.1 h.3)

pub spelled_again : (ascii : Bool) (literal : List ℕ) (x : Form) → SpellsLiteral literal x → IsWellMade x → SpellsLiteral (literal_of ascii x) x
spelled_again ascii literal x (tree, spells, is) made =
    let same : owned_form x ≡ x = ap owned_form is ∙ tree_owned tree literal spells ∙ sym is in
    subst (SpellsLiteral (literal_of ascii x)) same (literal_spelled ascii x made)
