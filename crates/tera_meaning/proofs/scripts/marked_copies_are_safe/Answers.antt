use Rattle.std.proofs.Common.{rules}
use Rattle.std.specs.FinMap.{gets}
use Rattle.tera_meaning.proofs.scripts.marked_copies_are_safe.Goals as goal

pub returns : goal.returns
returns c = simp gets (search rules)
