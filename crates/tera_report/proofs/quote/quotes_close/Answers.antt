use Rattle.tera_report.proofs.QuoteLaws.{quotes_close}
use Rattle.tera_report.proofs.quote.quotes_close.Goals as goal

pub returns : goal.returns
returns c = quotes_close
