use Rattle.tera_script.proofs.WrittenLines.{no_control, only_ascii}
use Rattle.tera_script.proofs.write_laws.what_is_written_prints.Goals as goal

pub returns : goal.returns
returns c = record { control = no_control; ascii = only_ascii }
