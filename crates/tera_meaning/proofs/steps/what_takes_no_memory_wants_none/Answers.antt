use Rattle.tera_meaning.proofs.StepLaws.{escapes_nothing, prints_nothing}
use Rattle.tera_meaning.proofs.steps.what_takes_no_memory_wants_none.Goals as goal

pub returns-clause-print : goal.returns-clause-print
returns-clause-print c = prints_nothing

pub returns-clause-escape : goal.returns-clause-escape
returns-clause-escape c = escapes_nothing
