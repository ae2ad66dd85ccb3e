-- What was put is passed on.
use Rattle.std.proofs.lemmas.Result.{on_ok_weaker}
use Rattle.tera_report.proofs.SentLaws.{sends_put}
use Rattle.tera_cli.proofs.obey.show.Goals as goal

pub returns-clause-ok : goal.returns-clause-ok
returns-clause-ok g c =
    on_ok_weaker c.pass_on.result
    (λ passed. (_, sends_put g.W.Sink.takes g.W.Sink.flushes _ c.args.text.now _ c.in-Ok.ensures, passed))
    c.pass_on.ensures.ok
