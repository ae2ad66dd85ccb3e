-- The prompt was put, or putting it failed.
use Rattle.tera_replies.proofs.ReplayLaws.{told_comes}
use Rattle.tera_cli.proofs.conversation.ask.Goals as goal

pub returns : goal.returns
returns g c = told_comes g.E.Sink.takes g.E.Sink.fails c.put.result _ _ _ c.put.ensures
