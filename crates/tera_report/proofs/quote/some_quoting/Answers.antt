use Rattle.tera_report.proofs.QuoteLaws.{quotes_by_rule, some_list}
use Rattle.tera_report.proofs.quote.some_quoting.Goals as goal

pub returns : goal.returns
returns c = record { text = quotes_by_rule; list = some_list }
