-- How answering ended decides what is to be told, and the status.
use Rattle.std.proofs.Common.{◌≡◌, refl}
use Rattle.std.proofs.lemmas.Option.{IfSome_then}
use Rattle.tera_replies.specs.inner.Endings.{told}
use Rattle.tera_replies.proofs.ReplayLaws.{ends_replay}
use Rattle.tera_replies.proofs.replays.answer_to_end.Goals as goal

pub returns-clause-known : goal.returns-clause-known
returns-clause-known g c =
    IfSome_then (g.S.Source.left c.args.input.now) c.answer_all-answered.ensures.known (λ bytes ends. ends_replay bytes _ _ g.W.Sink
    (λ text. text ≡ told c.flush_last.result) c.args.out.now _ c.flush_last.new.out c.answer_all-answered.result c.flush_last.result
    c.flush_last.ensures refl ends)

pub returns-clause-given : goal.returns-clause-given
returns-clause-given g c =
    let (given, consumed, were, ends) = c.answer_all-answered.ensures.given in (
      given,
      consumed,
      were,
      ends_replay given _ _ g.W.Sink (λ text. text ≡ told c.flush_last.result) c.args.out.now _ c.flush_last.new.out
          c.answer_all-answered.result c.flush_last.result c.flush_last.ensures refl ends,
    )
