-- The keys of entries that are put one after another.
use Rattle.std.specs.Prelude.{not, List, is_some}
use Rattle.std.specs.List.{filter}
use Rattle.std.specs.Map.{keys_of}
use Rattle.std.specs.declared.cmp.Ordering.{Ordering}
use Rattle.tera_meaning.specs.Pairs.{value_at}

module _ {K V : Type 0} (order : K → K → Ordering) where
  -- the keys of the entries at which the pairs have no value
  abbrev pub keys_beside : List (K × V) → List (K × V) → List K
  keys_beside pairs entries =
      filter (λ k. not (is_some (value_at order pairs k))) (keys_of entries)
