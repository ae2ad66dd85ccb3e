use Rattle.std.proofs.Common.{refl}
use Rattle.std.specs.Fmt.{digits}
use Rattle.std.specs.Str.{chars}
use Rattle.tera_report.proofs.report.laws.worked_reports_have_these_texts.Goals as goal

pub returns : goal.returns
unfolding digits chars
returns c = record { with_note = refl; without_source = refl; at_tab = refl; past_the_end = refl; at_line_0 = refl; at_last_column = refl; past_ascii = refl }
