use Rattle.tera_report.proofs.QuoteLaws.{one_quoting, list_known}
use Rattle.tera_report.proofs.quote.one_quoting.Goals as goal

pub returns : goal.returns
returns c = record { text = one_quoting; list = list_known }
