use Rattle.std.proofs.Common.{arith, sym, subst, take}
use Rattle.std.proofs.Math.Numerals.{suc-eq-add-one}
use Rattle.tera_meaning.specs.KeyMeaning.{KeyForm}
use Rattle.tera_meaning.specs.Tree.{items, members}
use Rattle.tera_meaning.specs.WellMade.{AreWellMade, AreWellMadeMembers}
use Rattle.tera_values.proofs.PartsLaws.{depth_at, first_depth, one_more_well_made, one_more_made, map_made}
use Rattle.tera_meaning.specs.Form.{Form}
use Rattle.tera_values.specs.Key.{key_form}
use Rattle.tera_values.proofs.well_made.+well_made.Goals as goal

pub items_are_well_made-is_well_made-requires : goal.items_are_well_made-is_well_made-requires
items_are_well_made-is_well_made-requires t c =
    let item = c.value-item in
    let less_deep = depth_at c.args.all.now c.loop-value.value-index item.result c.loop-value-test.true item.is in
    (omega (arith, less_deep), tt)

pub items_are_well_made-loop-value-preserved : goal.items_are_well_made-loop-value-preserved
items_are_well_made-loop-value-preserved t c =
    let all = c.args.all.now in
    let l = c.loop-value in
    let item = c.value-item in
    let more = one_more_well_made all l.value-index item.result c.loop-value-test.true item.is l.invariant c.is_well_made.ensures in
    subst (λ n. AreWellMade (items (take n all))) (suc-eq-add-one l.value-index) more

pub map_is_well_made-is_well_made-requires : goal.map_is_well_made-is_well_made-requires
map_is_well_made-is_well_made-requires t c =
    let p : KeyForm × Form = (key_form c.in-Some.key.now, c.in-Some.value.now) in
    let less_deep = first_depth c.loop-key.key-iterator c.next.new.self p c.in-Some.ensures.steps in
    let within = c.loop-key.invariant.within in
    (omega (arith, less_deep.0, within), tt)

pub map_is_well_made-loop-key-preserved : goal.map_is_well_made-loop-key-preserved
map_is_well_made-loop-key-preserved t c =
    let p : KeyForm × Form = (key_form c.in-Some.key.now, c.in-Some.value.now) in
    let steps = c.in-Some.ensures.steps in
    let left = c.loop-key.key-iterator in
    let rest = c.next.new.self in
    let less_deep = first_depth left rest p steps in
    let within = c.loop-key.invariant.within in
    record {
      made = one_more_made c.args.map.now left rest p steps c.loop-key.invariant.made c.key_is_well_made.ensures c.is_well_made.ensures;
      within = omega (arith, less_deep.1, within);
    }

pub map_is_well_made-returns : goal.map_is_well_made-returns
map_is_well_made-returns t c =
    let none = c.in-None.ensures.steps in
    map_made c.args.map.now c.iter-key-items.ensures.distinct
    (c.loop-key.invariant.made (subst (λ l. AreWellMadeMembers (members l)) (sym none.0) tt))
