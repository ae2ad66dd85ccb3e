use Rattle.tera_filters.proofs.FirstOnes.{one_behind}
use Rattle.tera_filters.proofs.laws.unique_items_are_distinct.Goals as goal

pub returns-clause-next : goal.returns-clause-next
returns-clause-next c = one_behind
