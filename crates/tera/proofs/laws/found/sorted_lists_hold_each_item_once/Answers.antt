-- By the lemmas on strictly rising lists.
use Rattle.tera.proofs.FindLaws.{find_inserted, found_where_held, held_once, held_where_found}
use Rattle.tera.proofs.laws.found.sorted_lists_hold_each_item_once.Goals as goal

pub returns-clause-once : goal.returns-clause-once
returns-clause-once g c = held_once

pub returns-clause-found : goal.returns-clause-found
returns-clause-found g c =
    λ order total ks q k rises. (held_where_found order total ks q k, λ both. found_where_held order total ks q k rises both.0 both.1)

pub returns-clause-inserted : goal.returns-clause-inserted
returns-clause-inserted g c = find_inserted
