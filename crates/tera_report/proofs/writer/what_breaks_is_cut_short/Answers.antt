use Rattle.tera_report.proofs.WriterLemmas.{broke_short, broke_by_fault}
use Rattle.tera_report.proofs.writer.what_breaks_is_cut_short.Goals as goal

pub returns : goal.returns
returns g c = record { short = broke_short g.W.Writer.wrote; fault = broke_by_fault g.W.Writer.wrote }
