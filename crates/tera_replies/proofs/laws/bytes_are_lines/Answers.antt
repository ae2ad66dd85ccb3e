-- Byte by byte.
use Rattle.tera_replies.proofs.StretchLemmas.{splits}
use Rattle.tera_replies.proofs.laws.bytes_are_lines.Goals as goal

pub returns : goal.returns
returns c = splits
