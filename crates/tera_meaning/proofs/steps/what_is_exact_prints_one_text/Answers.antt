use Rattle.tera_meaning.proofs.StepLaws.{escapes_one, prints_one}
use Rattle.tera_meaning.proofs.steps.what_is_exact_prints_one_text.Goals as goal

pub returns-clause-print : goal.returns-clause-print
returns-clause-print c = prints_one

pub returns-clause-escape : goal.returns-clause-escape
returns-clause-escape c = escapes_one
