use Rattle.std.proofs.Common.{rules}
use Rattle.std.specs.Fmt.{digits}
use Rattle.tera_meaning.proofs.looked_up.fields_are_named_once.Goals as goal

pub returns : goal.returns
unfolding digits
returns c = search rules
