use Rattle.std.proofs.Common.{ap, sym, ◌∙◌, ◌++◌, ◌∷◌, []}
use Rattle.tera_conversions.proofs.GivenLaws.{passed_on, puts_on, later_refused, moved_on}
use Rattle.tera_conversions.specs.Given.{GivesPair, PairRefuses}
use Rattle.tera_conversions.proofs.maps.IndexMapToValue.to_value.Goals as goal

pub loop-key-init : goal.loop-key-init
loop-key-init g c = record { before = []; so_far = ([], tt, c.new-given.ensures); whole = c.into_iter-key-iterator.ensures.into_iter_gives.0 }

pub returns-in_err-put-clause-err : goal.returns-in_err-put-clause-err
returns-in_err-put-clause-err g c =
    let before = c.loop-key.invariant.before in
    let whole = ap (λ rest. before ++ rest) (sym c.in-Some.ensures.steps) ∙ c.loop-key.invariant.whole in
    let refused = later_refused (GivesPair g.K.ToKey.gives_key g.T.ToValue.gives) (PairRefuses g.K.ToKey.gives_key g.K.ToKey.refuses_key g.T.ToValue.refuses)
    _ _ _ _ _ _ whole
    c.loop-key.invariant.so_far.1 c.in_err-put.ensures.err in
    passed_on _ _ _ c.from_residual.ensures.1 refused

pub loop-key-preserved : goal.loop-key-preserved
loop-key-preserved g c =
    let before = c.loop-key.invariant.before in record {
      before = before ++ ((c.in-Some.key, c.in-Some.value) ∷ []);
      so_far = puts_on g.K.ToKey.gives_key g.T.ToValue.gives before c.loop-key.given (c.in-Some.key, c.in-Some.value)
          c.in_ok-put.ensures.ok.0 c.put.new.given c.loop-key.invariant.so_far c.in_ok-put.ensures.ok.1 c.in_ok-put.ensures.ok.2;
      whole = moved_on _ _ _ _ (ap (λ rest. before ++ rest) (sym c.in-Some.ensures.steps) ∙ c.loop-key.invariant.whole);
    }
