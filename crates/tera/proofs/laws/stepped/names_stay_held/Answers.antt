-- By the lemmas on names.
use Rattle.tera.proofs.SteppedLaws.{name_stays, names_stay}
use Rattle.tera.proofs.laws.stepped.names_stay_held.Goals as goal

pub returns-clause-insert : goal.returns-clause-insert
returns-clause-insert g c = name_stays

pub returns-clause-steps : goal.returns-clause-steps
returns-clause-steps g c = names_stay
