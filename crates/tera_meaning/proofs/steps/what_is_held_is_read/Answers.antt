use Rattle.std.specs.Prelude.{Some}
use Rattle.tera_meaning.proofs.StepLaws.{escapes, prints}
use Rattle.tera_meaning.proofs.steps.what_is_held_is_read.Goals as goal

pub returns-clause-print : goal.returns-clause-print
returns-clause-print c state name value e = prints state name (Some value) e

pub returns-clause-escape : goal.returns-clause-escape
returns-clause-escape c state name value e = escapes state name (Some value) e
