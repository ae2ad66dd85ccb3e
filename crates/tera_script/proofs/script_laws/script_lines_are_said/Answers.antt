use Rattle.tera_script.proofs.SavedLines.{lines_print, lines_said}
use Rattle.tera_script.proofs.script_laws.script_lines_are_said.Goals as goal

pub returns : goal.returns
returns c = record { said = lines_said; control = lines_print }
