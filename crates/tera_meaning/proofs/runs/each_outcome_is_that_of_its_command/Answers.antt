use Rattle.tera_meaning.proofs.RunLemmas.{run_through}
use Rattle.tera_meaning.proofs.runs.each_outcome_is_that_of_its_command.Goals as goal

pub returns : goal.returns
returns c = run_through
