use Rattle.std.proofs.Common.{◌∷◌, ◌++◌, [], ap, length, sym, ◌∙◌, subst}
use Rattle.std.specs.List.{IsDistinct}
use Rattle.tera_values.specs.inner.Map.{keys_tie}
use Rattle.tera_values.proofs.KeyLemmas.{one_key_distinct}
use Rattle.tera_values.proofs.map.columns.Columns.of_pair.Goals as goal

pub invariant_of-boxed : goal.invariant_of-boxed
invariant_of-boxed c =
    let keys = c.in_ok-keys.ensures in
    let values = c.push_reserved.ensures.items ∙ ap (λ l. l ++ c.args.value ∷ []) c.in_ok-values.ensures.items in
    record {
      even = ap length keys ∙ sym (ap length values);
      distinct = subst (IsDistinct keys_tie) (sym keys) (one_key_distinct c.args.key);
    }
