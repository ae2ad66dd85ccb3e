use Rattle.std.proofs.Common.{sym, subst, ◌+◌, take, inr, arith}
use Rattle.std.proofs.lemmas.Grind.{common_steps}
use Rattle.std.specs.List.{AllZip}
use Rattle.tera_conversions.proofs.GivenLaws.{first_refused, passed_on}
use Rattle.tera_arguments.proofs.ItemLaws.{around, taken_on}
use Rattle.tera_arguments.proofs.from_value.taken.Goals as goal

pub returns-in_err-from_value-clause-err : goal.returns-in_err-from_value-clause-err
returns-in_err-from_value-clause-err g c =
    let whole = around c.args.items.now c.loop-value.value-index c.value-item.result c.loop-value-test.true c.value-item.is in
    let refused = first_refused g.T.ArgFromValue.takes g.T.ArgFromValue.denies _ _ _ _ _ _ whole c.loop-value.invariant.so_far
    c.in_err-from_value.ensures.err in
    passed_on _ _ _ c.from_residual-in_err-from_value.ensures.1 (inr refused)

pub loop-value-preserved : goal.loop-value-preserved
loop-value-preserved g c = record {
  so_far = subst (λ taken. AllZip g.T.ArgFromValue.takes (take (c.loop-value.value-index + 1) c.args.items.now) taken)
      (sym c.push_reserved.ensures.items)
      (taken_on g.T.ArgFromValue.takes c.args.items.now c.loop-value.taken.items c.loop-value.value-index c.value-item.result
      c.in_ok-from_value.field-0 c.loop-value-test.true c.value-item.is c.loop-value.invariant.so_far c.in_ok-from_value.ensures.ok);
  so_many = grind (arith, common_steps);
  room = grind (arith, common_steps);
}
