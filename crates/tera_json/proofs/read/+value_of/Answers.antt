use Rattle.std.proofs.Common.{◌-◌, sym, ap, ◌∙◌, subst, arith, rules}
use Rattle.std.proofs.lemmas.Bool.{ne_eqb}
use Rattle.json.proofs.Trees.{view-Object}
use Rattle.json.specs.Value.{value_view, members_view}
use Rattle.tera_json.specs.Misfits.{misfits, member_misfits}
use Rattle.tera_json.specs.Numbers.{integer_in}
use Rattle.tera_json.specs.inner.Stopped.{IsDue}
use Rattle.tera_json.proofs.Reading.{view_number, no_integer_due, object_due, left_item, no_item_left, left_member, no_member_left}
use Rattle.tera_json.proofs.Reading.{next_item, stopped_item, all_items, next_member, stopped_member, all_members}
use Rattle.tera_meaning.specs.Tree.{object, members}
use Rattle.tera_json.proofs.read.+value_of.Goals as goal

pub value_of-returns-in-None-clause-err : goal.value_of-returns-in-None-clause-err
value_of-returns-in-None-clause-err t c =
    let text = c.in-Number.text.now in
    let view = ap value_view c.in-Number.is ∙ view_number _ c.in-Number.text in
    subst (λ j. IsDue (misfits c.args.levels j) c.here.result) (sym view)
    (no_integer_due text (integer_in text) c.here.result (sym c.in-None.is ∙ c.integer_in.ensures) c.here.ensures)

pub value_of-returns-in_err-made-in-Object-clause-err : goal.value_of-returns-in_err-made-in-Object-clause-err
value_of-returns-in_err-made-in-Object-clause-err t c =
    let s = c.in_err-made-in-Object.field-0.0 in
    let view = ap value_view c.in-Object.is ∙ view-Object c.in-Object.all in
    let inside = subst (λ l. IsDue (member_misfits (c.args.levels - 1) (members_view l)) s) c.as_slice-in-Object.ensures.value
    c.in_err-made-in-Object.ensures.err in
    let due : IsDue (misfits c.args.levels (value_view c.args.document.now)) s = subst (λ j. IsDue (misfits c.args.levels j) s) (sym view)
    (object_due c.args.levels (members_view c.in-Object.all.items) s (ne_eqb c.args.levels 0 (λ z. omega (arith, z, c.if-levels-eq0-2.false))) inside) in
    search rules

pub items_of-returns-in-Err-clause-err : goal.items_of-returns-in-Err-clause-err
items_of-returns-in-Err-clause-err t c =
    stopped_item c.in_item.result c.loop-at.invariant (left_item c.args.all.now c.loop-at.at c.index-all-at.result c.loop-at-test.true c.index-all-at.is)
    (c.in_item.ensures _ c.in-Err.ensures.err)

pub items_of-loop-at-preserved : goal.items_of-loop-at-preserved
items_of-loop-at-preserved t c =
    next_item c.in-Ok.value c.loop-at.invariant (left_item c.args.all.now c.loop-at.at c.index-all-at.result c.loop-at-test.true c.index-all-at.is)
    c.in-Ok.ensures.ok c.in-Ok.ensures.fits c.in_ok-push-in-Ok.ensures.items

pub items_of-returns-clause-ok : goal.items_of-returns-clause-ok
items_of-returns-clause-ok t c = all_items c.loop-at.invariant (no_item_left c.args.all.now c.loop-at.at c.loop-at-test.false)

pub members_of-returns-in-Err-clause-err : goal.members_of-returns-in-Err-clause-err
members_of-returns-in-Err-clause-err t c =
    stopped_member c.in_member.result c.loop-at.invariant (left_member c.args.all.now c.loop-at.at c.index-all-at.result c.loop-at-test.true c.index-all-at.is)
    (c.in_member.ensures _ c.in-Err.ensures.err)

pub members_of-loop-at-preserved : goal.members_of-loop-at-preserved
members_of-loop-at-preserved t c =
    next_member c.in-Ok.value c.loop-at.invariant (left_member c.args.all.now c.loop-at.at c.index-all-at.result c.loop-at-test.true c.index-all-at.is)
    c.in-Ok.ensures.ok c.in-Ok.ensures.fits c.in_ok-put-in-Ok.ensures

pub members_of-returns-clause-ok : goal.members_of-returns-clause-ok
members_of-returns-clause-ok t c =
    let all = all_members c.loop-at.invariant (no_member_left c.args.all.now c.loop-at.at c.loop-at-test.false) in
    (all.0, all.1, ap (λ ps. object (members ps)) all.2)
