use Rattle.tera_replies.proofs.StretchLemmas.{one_script}
use Rattle.tera_replies.proofs.laws.scripts_say_one_thing.Goals as goal

pub returns : goal.returns
returns c = one_script c.one_command.ensures c.skipped_says_nothing.ensures
