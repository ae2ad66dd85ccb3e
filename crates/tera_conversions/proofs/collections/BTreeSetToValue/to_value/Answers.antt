use Rattle.std.proofs.Common.{rules, ap, sym, subst, ◌∙◌, ◌++◌, [], ◌∷◌}
use Rattle.std.specs.List.{AllZip}
use Rattle.tera_conversions.proofs.GivenLaws.{zipped_on, first_refused, moved_on}
use Rattle.tera_conversions.proofs.collections.BTreeSetToValue.to_value.Goals as goal

pub returns-in_err-to_value-clause-err : goal.returns-in_err-to_value-clause-err
returns-in_err-to_value-clause-err g c =
    let whole = ap (λ rest. c.loop-part.yielded ++ rest) (sym c.in-Some.ensures.steps) ∙ c.loop-part.invariant.whole in
    let refused = first_refused g.T.ToValue.gives g.T.ToValue.refuses _ _ _ _ _ _ whole c.loop-part.invariant.so_far c.in_err-to_value.ensures.err in
    search rules

pub loop-part-preserved : goal.loop-part-preserved
loop-part-preserved g c = record {
  so_far = subst (λ given. AllZip g.T.ToValue.gives (c.loop-part.yielded ++ (c.in-Some.part ∷ [])) given) (sym c.in_ok-push.ensures.items)
      (zipped_on g.T.ToValue.gives _ _ _ _ c.loop-part.invariant.so_far c.in_ok-to_value.ensures.ok);
  whole = moved_on _ _ _ _ (ap (λ rest. c.loop-part.yielded ++ rest) (sym c.in-Some.ensures.steps) ∙ c.loop-part.invariant.whole);
}
