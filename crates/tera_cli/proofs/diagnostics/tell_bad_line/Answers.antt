use Rattle.tera_replies.proofs.ReplayLaws.{told_comes}
use Rattle.tera_cli.specs.Why.{why_text}
use Rattle.tera_cli.proofs.diagnostics.tell_bad_line.Goals as goal

pub returns : goal.returns
returns g c =
    (why_text c.reason-found.result, c.reason-found.ensures, told_comes g.E.Sink.takes g.E.Sink.fails c.put_bad_line.result _ _ _ c.put_bad_line.ensures)
