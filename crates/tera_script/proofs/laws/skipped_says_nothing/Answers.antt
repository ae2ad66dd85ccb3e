use Rattle.tera_script.proofs.Lines as lines
use Rattle.tera_script.proofs.laws.skipped_says_nothing.Goals as goal

pub returns : goal.returns
returns c = lines.skipped_says_nothing
