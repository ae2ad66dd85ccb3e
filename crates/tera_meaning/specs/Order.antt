-- The order of meanings.
use Rattle.std.specs.Prelude.{ℕ, Bool}
use Rattle.std.specs.Ordering.{ordering_then, nat_cmp, int_cmp, bool_cmp, is_eq}
use Rattle.std.specs.declared.cmp.Ordering.{Ordering}
use Rattle.std.specs.declared.cmp.Ordering.TheVariants.{Less, Equal, Greater}
use Rattle.std.specs.Cmp.Lexicographic.{slice_cmp}
use Rattle.tera_meaning.specs.KeyMeaning.{key_order}
use Rattle.tera_meaning.specs.Meaning.{Meaning}
use Rattle.tera_meaning.specs.Tree.{Items, Members, undefined, none, truth, number, text, bytes}
use Rattle.tera_meaning.specs.Tree.{array, object, no_items, item, no_members, member}
use Rattle.tera_meaning.specs.KeyMeaning.{KeyMeaning}
use Rattle.std.specs.Prelude.{ℤ, List}

-- truth values, numbers, texts, arrays, maps, bytes, none, undefined
abbrev pub rank : Meaning → ℕ
rank (truth b) = 0
rank (number z) = 1
rank (text t) = 2
rank (array xs) = 3
rank (object ps) = 4
rank (bytes bs) = 5
rank none = 6
rank undefined = 7

-- by rank, and inside a rank by value: lists item by item, the shorter first where it runs out; in
-- a pair of a map the key counts before the value
abbrev mutual
  pub compare : Meaning → Meaning → Ordering
  compare (truth a) (truth b) = bool_cmp a b
  compare (number y) (number z) = int_cmp y z
  compare (text s) (text t) = slice_cmp nat_cmp s t
  compare (bytes s) (bytes t) = slice_cmp nat_cmp s t
  compare (array xs) (array ys) = compare_items xs ys
  compare (object ps) (object qs) = compare_members ps qs
  compare x y = nat_cmp (rank x) (rank y)

  pub compare_items : Items ℤ (List ℕ) KeyMeaning → Items ℤ (List ℕ) KeyMeaning → Ordering
  compare_items no_items no_items = Equal
  compare_items no_items (item y ys) = Less
  compare_items (item x xs) no_items = Greater
  compare_items (item x xs) (item y ys) = ordering_then (compare x y) (compare_items xs ys)

  pub compare_members : Members ℤ (List ℕ) KeyMeaning → Members ℤ (List ℕ) KeyMeaning → Ordering
  compare_members no_members no_members = Equal
  compare_members no_members (member l y qs) = Less
  compare_members (member k x ps) no_members = Greater
  compare_members (member k x ps) (member l y qs) =
      ordering_then (key_order k l) (ordering_then (compare x y) (compare_members ps qs))

-- whether two meanings are equal
abbrev pub same : Meaning → Meaning → Bool
same x y = is_eq (compare x y)

-- a pair of a map by its key and then by its value
abbrev pub pair_order : KeyMeaning × Meaning → KeyMeaning × Meaning → Ordering
pair_order p q = ordering_then (key_order p.0 q.0) (compare p.1 q.1)
