-- The place is the feed's.
use Rattle.std.proofs.Common.{◌≡◌, ℕ, List, [], ◌∷◌, IfErr, subst}
use Rattle.tera_report.specs.Sink.{Sends}
use Rattle.tera_replies.specs.Output.{BrokeOn}
use Rattle.tera_replies.specs.Script.{last_line}
use Rattle.tera_replies.specs.Stretch.{LineStops, Place}
use Rattle.tera_replies.proofs.replayer.Replayer.finish.Goals as goal

pub returns-clause-err : goal.returns-clause-err
returns-clause-err g c =
    let sink = g.W.Sink in
    let new = c.finish.new in
    let sent = Sends sink.takes sink.flushes c.args.out.now [] new.out in
    let broke : List ℕ → Type 0 = λ text. BrokeOn sink.takes sink.fails sink.flushes sink.flush_fails c.args.out.now text new.out in
    subst (λ (p : Place). IfErr c.finish.result (λ fault. (last_line p.part ≡ p.part ∷ [])
    × LineStops p.number p.state p.part new.self.context sent broke fault)) c.self.view_is c.finish.ensures.err
