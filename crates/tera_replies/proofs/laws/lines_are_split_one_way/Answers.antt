-- Line by line.
use Rattle.tera_replies.proofs.StretchLemmas.{Splits-same}
use Rattle.tera_replies.proofs.laws.lines_are_split_one_way.Goals as goal

pub returns : goal.returns
returns c = Splits-same
