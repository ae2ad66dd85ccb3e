use Rattle.std.proofs.Common.{refl}
use Rattle.std.specs.Fmt.{digits}
use Rattle.tera_report.specs.Refusal.{message, number_out_of_range}
use Rattle.tera_report.proofs.errors.refusals.errors_say_the_text_of_their_refusal.Goals as goal

pub returns-clause-text : goal.returns-clause-text
returns-clause-text c (message words) = refl
returns-clause-text c (number_out_of_range number target) = refl
returns-clause-text c refusal = refl

pub returns-clause-range : goal.returns-clause-range
unfolding digits
returns-clause-range c = refl
