use Rattle.std.specs.Prelude.{None, refl}
use Rattle.tera_meaning.proofs.StepLaws.{escapes, prints}
use Rattle.tera_meaning.proofs.steps.absent_names_read_as_undefined.Goals as goal

pub returns-clause-print : goal.returns-clause-print
returns-clause-print c state name e = prints state name None e refl

pub returns-clause-escape : goal.returns-clause-escape
returns-clause-escape c state name e = escapes state name None e refl
