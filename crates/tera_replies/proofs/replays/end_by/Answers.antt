-- What was told was put, or putting it failed.
use Rattle.tera_replies.proofs.ReplayLaws.{told_comes}
use Rattle.tera_replies.proofs.replays.end_by.Goals as goal

pub returns-clause-told : goal.returns-clause-told
returns-clause-told g c = told_comes g.E.Sink.takes g.E.Sink.fails c.tell.result _ _ _ c.tell.ensures.puts
