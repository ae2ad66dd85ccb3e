use Rattle.std.proofs.Common.{subst}
use Rattle.std.specs.List.Sorted.{IsStable}
use Rattle.std.specs.Ordering.{on}
use Rattle.tera.specs.Meaning.{meaning}
use Rattle.tera.specs.Order.{compare}
use Rattle.tera_filters.proofs.Sorts.{sorted_forms}
use Rattle.tera_filters.proofs.ordered.sorted.Goals as goal

pub returns-clause-ok : goal.returns-clause-ok
returns-clause-ok c =
    sorted_forms c.args.items.now c.sort.new.self.items c.in_ok-sort.ensures.sorted
    (subst (λ xs. IsStable (on meaning compare) xs c.sort.new.self.items) c.in_ok-made.ensures.ok c.sort.ensures.stable)
