use Rattle.tera_script.proofs.WrittenLines.{line_says}
use Rattle.tera_script.proofs.write_laws.written_lines_are_said.Goals as goal

pub returns : goal.returns
returns c = line_says
