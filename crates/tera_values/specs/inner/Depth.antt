-- Each item of an array, and each value of a map, is less deep than the array or the map.
use Rattle.std.specs.Prelude.{◌≡◌, ◌+◌, ◌*◌, ◌≤◌, max, List, [], ◌∷◌, length}
use Rattle.std.specs.declared.alloc.Global.{Global}
use Rattle.std.proofs.Common.{arith}
use denote.Param.Weighed.{most}
use Rattle.tera_meaning.specs.Form.{Form}
use Rattle.tera_meaning.specs.Tree.{items, items_depth}
use Rattle.tera_values.specs.inner.Map.{pairs_held, pairs_in, AreColumns}
use Rattle.tera_values.specs.inner.Size.{value_size, pairs_size, columns_size}
use Rattle.tera_values.specs.View.{form_of}
use Rattle.tera_values.specs.declared.key.Key.{Key}
use Rattle.tera_values.specs.declared.map.Held.{Held}
use Rattle.tera_values.specs.declared.map.Held.TheVariants.{Nothing, Pairs}
use Rattle.tera_values.specs.declared.map.Map.TheInside.{Inside}
use Rattle.tera_values.specs.declared.value.ValueInner.{ValueInner}
use Rattle.tera_values.specs.declared.value.ValueInner.TheVariants.{Undefined, None, Bool as Truth}
use Rattle.tera_values.specs.declared.value.ValueInner.TheVariants.{U64, I64, U128, I128, String}
use Rattle.tera_values.specs.declared.value.ValueInner.TheVariants.{Array, Bytes, Map as Members}
use Rattle.tera_values.specs.declared.map.Map.TheDeep.{deep-Map, deep-ValueInner}

most_le-items_depth : (xs : List Form) → most (λ v. value_size v + 1) xs
    ≤ 3 * items_depth (items xs) + 1
most_le-items_depth [] = omega arith
most_le-items_depth (x ∷ xs) = omega (arith, most_le-items_depth xs)

most_le : (ks : List Key) (vs : List Form) → length ks ≡ length vs
    → most (λ v. value_size v + 1) vs ≤ columns_size (pairs_held ks vs)
most_le ks [] e = omega arith
most_le [] (v ∷ vs) e = absurd (omega arith)
most_le (k ∷ ks) (v ∷ vs) e = omega (arith, most_le ks vs (omega arith))

pub most_le-columns_size : (ks : List Key) (vs : List Form) → AreColumns ks vs
    → max (most (λ v. value_size v + 1) vs) 0 ≤ columns_size (pairs_held ks vs)
most_le-columns_size ks vs h = omega (arith, most_le ks vs h.even)

lists_le : (alloc : Global) (held : Held)
    → deep-Map (record { alloc = alloc; held = held }) ≤ pairs_size (pairs_in held)
lists_le alloc (Nothing state) = omega arith
lists_le alloc (Pairs columns) = omega arith

pub deep_le-pairs_size : (m : Inside) → deep-Map m ≤ pairs_size (pairs_in m.held)
deep_le-pairs_size m = lists_le m.alloc m.held

pub deep_le-value_size : (v : ValueInner) → max (deep-ValueInner v) 0 ≤ value_size (form_of v)
deep_le-value_size Undefined = omega arith
deep_le-value_size None = omega arith
deep_le-value_size (Truth b) = omega arith
deep_le-value_size (U64 n) = omega arith
deep_le-value_size (I64 z) = omega arith
deep_le-value_size (U128 n) = omega arith
deep_le-value_size (I128 z) = omega arith
deep_le-value_size (String b t) = omega arith
deep_le-value_size (Array xs) = omega (arith, most_le-items_depth xs.items)
deep_le-value_size (Bytes bs) = omega arith
deep_le-value_size (Members m) = omega arith
