use Rattle.std.proofs.Common.{◌≡◌, map, take}
use Rattle.std.specs.List.{IsDistinct}
use Rattle.tera_values.specs.Key.{key_form}
use Rattle.tera_values.specs.inner.Map.{keys_tie}
use Rattle.tera_values.proofs.map.keys.insert_copies.Given as goal

-- those so far are copied
abbrev pub invariant-loop-key : goal.invariant-loop-key
invariant-loop-key l =
    record {
      forms : map key_form l.made.keys ≡ map key_form (take l.key-index l.keys);
      distinct : IsDistinct keys_tie l.made.keys;
    }
