use Rattle.std.proofs.Common.{refl}
use Rattle.std.specs.Fmt.{digits}
use Rattle.tera_report.proofs.errors.refusals.refusals_of_conversions_have_these_texts.Goals as goal

pub returns : goal.returns
unfolding digits
returns c = record { kind = refl; range = refl; sign = refl; number = refl; missing = refl; memory = refl }
