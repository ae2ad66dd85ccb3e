use Rattle.tera_context.proofs.Found.{refusal_found}
use Rattle.tera_context.proofs.find.refused.Goals as goal

pub returns : goal.returns
returns c state search into takes refuses = refusal_found c.args.error state search into refuses takes
