use Rattle.std.proofs.Common.{ap, length, sym, ◌∙◌, subst}
use Rattle.std.specs.List.{IsDistinct}
use Rattle.tera_values.specs.inner.Map.{keys_tie, pairs_held, pairs_in}
use Rattle.tera_values.proofs.ColumnLemmas.{no_keys}
use Rattle.tera_values.proofs.map.Map.into_lists.Goals as goal

pub returns-in-Nothing : goal.returns-in-Nothing
returns-in-Nothing c =
    let keys = c.new.ensures.items in
    record {
      pairs = ap (λ ks. pairs_held ks c.new-in-Nothing.result.items) keys ∙ sym (ap pairs_in c.in-Nothing.is) ∙ c.self.view_is;
      columns = record {
        even = ap length keys ∙ sym (ap length c.new-in-Nothing.ensures.items);
        distinct = subst (IsDistinct keys_tie) (sym keys) no_keys;
      };
    }
