use Rattle.tera_filters.proofs.Sorts.{sorted_forms}
use Rattle.tera_filters.proofs.laws.sorted_items_are_in_order.Goals as goal

pub returns-clause-only : goal.returns-clause-only
returns-clause-only c = sorted_forms
