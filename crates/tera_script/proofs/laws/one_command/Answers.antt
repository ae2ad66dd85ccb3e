use Rattle.tera_script.proofs.Lines as lines
use Rattle.tera_script.proofs.laws.one_command.Goals as goal

pub returns : goal.returns
returns c = lines.one_command
