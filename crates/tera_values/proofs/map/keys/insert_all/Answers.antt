use Rattle.std.proofs.Common.{◌≡◌, ◌∷◌, [], ◌++◌, ap, sym, ◌∙◌, subst, arith, append_assoc, length}
use Rattle.std.specs.List.{IsDistinct}
use Rattle.std.specs.Vec.Iter.{into_iter_items}
use Rattle.tera_values.specs.inner.Map.{keys_tie}
use Rattle.tera_values.proofs.ColumnLemmas.{new_key}
use Rattle.tera_values.proofs.KeyLemmas.{none_in_front}
use Rattle.tera_values.proofs.map.keys.insert_all.Goals as goal

pub loop-key-preserved : goal.loop-key-preserved
loop-key-preserved c =
    let made = c.loop-key.many.keys in
    let rest = into_iter_items c.next.new.self in
    let k = c.in-Some.key in
    let step = c.in-Some.ensures.steps.0 in
    let all : made ++ k ∷ rest ≡ c.args.keys.items = (λ j. made ++ sym step j) ∙ c.loop-key.invariant.keys in
    let none = none_in_front made k rest (subst (IsDistinct keys_tie) (sym all) c.requires.distinct) in
    let put = rw c.unwrap.ensures at c.insert.ensures.keys in
    let pushed : c.insert.new.self.keys ≡ made ++ k ∷ [] = put ∙ new_key made k none in
    record {
      ready = tt;
      finite = tt;
      keys = (λ j. pushed j ++ rest) ∙ append_assoc made (k ∷ []) rest ∙ all;
      room = omega (arith, ap length step, c.insert.ensures.spare, c.loop-key.invariant.room);
    }
