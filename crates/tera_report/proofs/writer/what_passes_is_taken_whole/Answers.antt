use Rattle.tera_report.proofs.WriterLemmas.{faults_of_passed}
use Rattle.tera_report.proofs.writer.what_passes_is_taken_whole.Goals as goal

pub returns : goal.returns
returns g c = record { whole = λ old bytes new passed. passed.whole; faults = faults_of_passed g.W.Writer.wrote }
