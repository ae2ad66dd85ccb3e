-- What was kept back and then the text were put, and nothing is kept back.
use Rattle.std.proofs.Common.{◌++◌, ◌∙◌, ap, append-nil}
use Rattle.std.proofs.lemmas.Result.{MatchResult-weaker}
use Rattle.tera_values.specs.inner.Stage.{kept_bytes}
use Rattle.tera_values.proofs.stage.Stage.pass.Goals as goal

pub returns : goal.returns
returns g c =
    let sent = c.in_ok-send.ensures in
    let kept = kept_bytes c.args.self.now in
    let text = c.args.text.now in
    MatchResult-weaker c.put.result c.put.ensures
    (λ _ took. record {
      same = sent.same;
      passed = kept ++ text;
      split = ap (λ l. (kept ++ text) ++ l) sent.empty ∙ append-nil (kept ++ text);
      took = g.met.S.Sink.joined _ kept _ text _ sent.took took;
    })
    (λ _ bad. record { same = sent.same; failed = g.met.S.Sink.failed_later _ kept _ text _ sent.took bad })
