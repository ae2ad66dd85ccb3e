use Rattle.std.proofs.Common.{refl}
use Rattle.std.specs.Fmt.{digits}
use Rattle.tera_report.proofs.errors.refusals.refusals_of_look_ups_have_these_texts.Goals as goal

pub returns : goal.returns
unfolding digits
returns c = record { key = refl; map_key = refl; array_index = refl; text_index = refl; step = refl; slice = refl; reversed = refl; container = refl }
