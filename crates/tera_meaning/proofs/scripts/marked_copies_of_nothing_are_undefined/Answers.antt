use Rattle.std.proofs.Common.{rules}
use Rattle.std.specs.FinMap.{gets}
use Rattle.tera_meaning.proofs.scripts.marked_copies_of_nothing_are_undefined.Goals as goal

pub returns : goal.returns
returns c = simp gets (search rules)
