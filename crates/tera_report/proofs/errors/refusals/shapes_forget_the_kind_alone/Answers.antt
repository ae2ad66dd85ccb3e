use Rattle.std.proofs.Common.{refl}
use Rattle.tera_report.specs.Refusal.{wrong_kind}
use Rattle.tera_report.proofs.errors.refusals.shapes_forget_the_kind_alone.Goals as goal

pub returns-clause-forgotten : goal.returns-clause-forgotten
returns-clause-forgotten c (wrong_kind before actual behind) = refl
returns-clause-forgotten c refusal = refl

pub returns-clause-alone : goal.returns-clause-alone
returns-clause-alone c (wrong_kind before actual behind) = refl
returns-clause-alone c refusal = refl
