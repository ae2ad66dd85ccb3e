use Rattle.std.proofs.Common.{ap, sym, refl, inl, inr, ◌∙◌, ◌++◌, ◌≡◌}
use Rattle.tera_conversions.proofs.GivenLaws.{puts_on, later_refused, moved_on, passed_on}
use Rattle.tera_conversions.specs.Given.{GivesPair}
use Rattle.tera_values.specs.Key.{key_form}
use Rattle.tera_arguments.proofs.parts.ValueParts.of_pairs.Goals as goal

pub returns-in_err-to_key-clause-err : goal.returns-in_err-to_key-clause-err
returns-in_err-to_key-clause-err g c =
    let whole = ap (λ rest. c.loop-key.yielded ++ rest) (sym c.in-Some.ensures.steps.0) ∙ c.loop-key.invariant.whole in
    let refused = later_refused (GivesPair g.K.ToKey.gives_key (λ given v. v ≡ given)) (λ pair. g.K.ToKey.refuses_key pair.0) _ _ _ _ _ _ whole
    c.loop-key.invariant.so_far.1 (inr c.in_err-to_key.ensures.err) in
    passed_on _ _ _ c.from_residual.ensures.1 refused

pub returns-in_err-insert-clause-err : goal.returns-in_err-insert-clause-err
returns-in_err-insert-clause-err g c =
    let whole = ap (λ rest. c.loop-key.yielded ++ rest) (sym c.in-Some.ensures.steps.0) ∙ c.loop-key.invariant.whole in
    let refused = later_refused (GivesPair g.K.ToKey.gives_key (λ given v. v ≡ given)) (λ pair. g.K.ToKey.refuses_key pair.0) _ _ _ _ _ _ whole
    c.loop-key.invariant.so_far.1
    (inl (c.in_err-insert.ensures.err, (key_form c.in_ok-to_key.field-0, c.in-Some.value), (c.in_ok-to_key.ensures.ok, refl))) in
    passed_on _ _ _ c.from_residual-in_err-insert.ensures.1 refused

pub loop-key-preserved : goal.loop-key-preserved
loop-key-preserved g c = record {
  so_far = puts_on g.K.ToKey.gives_key (λ given v. v ≡ given) _ _ _ (key_form c.in_ok-to_key.field-0, c.in-Some.value) _ c.loop-key.invariant.so_far
      (c.in_ok-to_key.ensures.ok, refl) c.in_ok-insert.ensures.ok;
  whole = moved_on _ _ _ _ (ap (λ rest. c.loop-key.yielded ++ rest) (sym c.in-Some.ensures.steps.0) ∙ c.loop-key.invariant.whole);
}
