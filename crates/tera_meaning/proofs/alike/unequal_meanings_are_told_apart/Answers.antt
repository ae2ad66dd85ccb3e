use Rattle.tera_meaning.proofs.ApartLemmas.{probe_brings}
use Rattle.tera_meaning.proofs.alike.unequal_meanings_are_told_apart.Goals as goal

pub returns-clause-brings : goal.returns-clause-brings
returns-clause-brings c = probe_brings
