use Rattle.tera_meaning.proofs.DifferenceLaws.{difference_decides, least_or_none, agreeing_tie}
use Rattle.tera_meaning.proofs.pairs.least_difference_decides.Goals as goal

pub returns-clause-order : goal.returns-clause-order
returns-clause-order g c = difference_decides g.K.Ord.cmp g.met.K.Ord.total g.V.Ord.cmp

pub returns-clause-tie : goal.returns-clause-tie
returns-clause-tie g c = agreeing_tie g.K.Ord.cmp g.met.K.Ord.total g.V.Ord.cmp

pub returns-clause-exists : goal.returns-clause-exists
returns-clause-exists g c = least_or_none g.K.Ord.cmp g.met.K.Ord.total g.V.Ord.cmp
