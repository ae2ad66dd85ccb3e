use Rattle.tera_replies.proofs.OneLineLemmas.{one_line}
use Rattle.tera_replies.proofs.laws.replies_that_quote_are_one_line.Goals as goal

pub returns : goal.returns
returns c = one_line
