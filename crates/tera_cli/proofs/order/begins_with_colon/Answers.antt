use Rattle.tera_cli.proofs.OrderLemmas.{no_prefix, behind_prefix}
use Rattle.tera_cli.proofs.order.begins_with_colon.Goals as goal

pub returns-in-Some : goal.returns-in-Some
returns-in-Some c = (_, behind_prefix c.args.word.now c.strip_prefix.ensures.cases c.as_slice.ensures c.in-Some.is)

pub returns-in_default : goal.returns-in_default
returns-in_default c = no_prefix c.args.word.now c.strip_prefix.ensures.cases c.as_slice.ensures c.in_default.is
