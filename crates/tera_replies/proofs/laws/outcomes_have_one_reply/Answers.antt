use Rattle.tera_replies.proofs.ReplyLemmas.{some_reply, one_reply}
use Rattle.tera_replies.proofs.laws.outcomes_have_one_reply.Goals as goal

pub returns-clause-some : goal.returns-clause-some
returns-clause-some c = some_reply

pub returns-clause-one : goal.returns-clause-one
returns-clause-one c = one_reply
