use Rattle.tera_meaning.specs.Meaning.{meaning}
use Rattle.tera_values.proofs.DecidedParts.{agreed}
use Rattle.tera_values.proofs.value.Value.try_compare.Goals as goal

pub returns-clause-agrees : goal.returns-clause-agrees
returns-clause-agrees c = agreed (meaning c.args.self.now) (meaning c.args.other.now) c.partial_order.result c.partial_order.ensures
