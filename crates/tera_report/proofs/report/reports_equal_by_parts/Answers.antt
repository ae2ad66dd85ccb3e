-- Of each part: the texts are the same, and the numbers of the spans, and the notes in turn.
use Rattle.tera_report.proofs.EqualReports.{reports_equal}
use Rattle.tera_report.proofs.report.reports_equal_by_parts.Goals as goal

pub returns : goal.returns
returns c = reports_equal
