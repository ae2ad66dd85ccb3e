use Rattle.tera_meaning.proofs.RunLemmas.{some_outcome}
use Rattle.tera_meaning.proofs.runs.commands_have_outcomes.Goals as goal

pub returns-clause-some : goal.returns-clause-some
returns-clause-some c state command = some_outcome state command.request command.into
