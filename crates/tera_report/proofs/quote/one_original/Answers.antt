use Rattle.tera_report.proofs.UnquoteLemmas.{one_original}
use Rattle.tera_report.proofs.quote.one_original.Goals as goal

pub returns : goal.returns
returns c = one_original
