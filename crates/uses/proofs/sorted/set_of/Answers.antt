use Rattle.std.proofs.Common.{ap, ◌∙◌}
use Rattle.std.specs.BTreeSet.{insert_key}
use Rattle.std.specs.Cmp.{on_total}
use Rattle.std.specs.List.{find}
use Rattle.std.specs.Ordering.{eq_by_cmp, on}
use Rattle.tera.proofs.FindLaws.{find_first}
use Rattle.tera.proofs.OrderLaws.{compare_total}
use Rattle.tera.specs.Meaning.{meaning}
use Rattle.tera.specs.Order.{compare}
use Rattle.uses.proofs.sorted.set_of.Goals as goal

pub loop-value-preserved : goal.loop-value-preserved
loop-value-preserved c = record {
  rises = c.in_ok-insert.ensures.ordered;
  found = λ x. ap (find (eq_by_cmp (on meaning compare) x))
      (c.in_ok-insert.ensures.keys ∙ ap (insert_key (on meaning compare) c.loop-value.set.keys) c.in_ok-clone.ensures.ok)
      ∙ find_first (on meaning compare) (on_total meaning compare_total) c.loop-value.set.keys c.args.values.now c.loop-value.value-index
      c.value-item.result x c.loop-value-test.true c.value-item.is c.loop-value.invariant.rises (c.loop-value.invariant.found x);
}
