use Rattle.tera_script.proofs.SavedLines.{lines_said}
use Rattle.tera_script.proofs.script_laws.written_contexts_are_said.Goals as goal

pub returns : goal.returns
returns c = λ ascii have. lines_said ascii c.args.context.now c.is_well_made.ensures have
