use Rattle.std.proofs.Common.{rules, refl, ◌∷◌, []}
use Rattle.tera_report.proofs.PutLaws.{puts_after}
use Rattle.tera_replies.specs.Script.{line_feed}
use Rattle.tera_replies.proofs.replays.tell_bad_line.Goals as goal

pub returns-in_err-put_report : goal.returns-in_err-put_report
returns-in_err-put_report g c =
    let bad = g.met.E.Sink.failed_early _ _ _ (line_feed ∷ []) c.in_err-put_report.ensures in
    search rules

pub returns : goal.returns
returns g c =
    puts_after g.E.Sink.takes g.E.Sink.fails g.met.E.Sink.joined g.met.E.Sink.failed_later _ _ _ _ _ _ _ refl c.in_ok-put_report.ensures
    c.put.ensures
