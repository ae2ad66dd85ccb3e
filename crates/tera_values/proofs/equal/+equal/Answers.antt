use Rattle.std.proofs.Common.{◌≡◌, ◌<◌, ◌≤◌, ◌+◌, ◌∙◌, suc, length, drop, Some, None, arith, sym, ap, not}
use Rattle.std.specs.Option.{is_some}
use Rattle.std.specs.Ordering.{is_eq}
use Rattle.tera_meaning.specs.Form.{Form}
use Rattle.tera_meaning.specs.KeyMeaning.{KeyForm}
use Rattle.tera_meaning.specs.Meaning.{meaning}
use Rattle.tera_meaning.specs.Order.{same}
use Rattle.tera_meaning.specs.Tree.{array, items, object, members, members_depth}
use Rattle.tera_values.specs.Key.{key_form}
use Rattle.tera_values.specs.inner.MapDifference.{least_met, differing}
use Rattle.tera_values.proofs.EqualLemmas.{uneven_items, goes_even, differs_here, all_even, none_new, uneven, met_here, met_nowhere}
use Rattle.tera_values.proofs.PartsLaws.{lists_order, depth_at, first_depth, array_of_items, map_of_members}
use Rattle.tera_values.proofs.MapDifferenceLemmas.{from_left}
use Rattle.tera_values.proofs.equal.+equal.Goals as goal

pub array_equal-returns-in-Some : goal.array_equal-returns-in-Some
array_equal-returns-in-Some t c =
    let right = array_of_items c.args.right.now c.in-Some.all.now c.in-Some.ensures in
    c.items_equal.ensures ∙ ap (λ v. same (meaning (array (items c.args.left.now))) (meaning v)) right

pub items_equal-returns-then-left-right : goal.items_equal-returns-then-left-right
items_equal-returns-then-left-right t c =
    sym (uneven_items c.args.left.now c.args.right.now (λ even. omega (arith, even, c.if-left-right.true)))

pub items_equal-equal-requires : goal.items_equal-equal-requires
items_equal-equal-requires t c =
    let item = c.index-left-place in
    let inside : c.loop-place.place < length c.args.left.now = omega (arith, c.loop-place-test.true, c.loop-place.auto.place-end) in
    let less_deep = depth_at c.args.left.now c.loop-place.place item.result inside item.is in
    (omega (arith, less_deep), tt)

pub items_equal-returns-then-not-equal : goal.items_equal-returns-then-not-equal
items_equal-returns-then-not-equal t c =
    let left = c.args.left.now in
    let right = c.args.right.now in
    let i = c.loop-place.place in
    let inside : i < length left = omega (arith, c.loop-place-test.true, c.loop-place.auto.place-end) in
    let in_right : i < length right = omega (arith, inside, c.if-left-right.false) in
    sym (ap is_eq c.loop-place.invariant
    ∙ differs_here left right i _ _ inside in_right c.index-left-place.is c.index-right-place.is (sym c.equal.ensures ∙ c.if-not-equal.true))

pub items_equal-loop-place-preserved : goal.items_equal-loop-place-preserved
items_equal-loop-place-preserved t c =
    let left = c.args.left.now in
    let right = c.args.right.now in
    let i = c.loop-place.place in
    let inside : i < length left = omega (arith, c.loop-place-test.true, c.loop-place.auto.place-end) in
    let in_right : i < length right = omega (arith, inside, c.if-left-right.false) in
    let next : suc i ≡ i + 1 = omega arith in
    c.loop-place.invariant
    ∙ goes_even left right i _ _ inside in_right c.index-left-place.is c.index-right-place.is (sym c.equal.ensures ∙ c.if-not-equal.false)
    ∙ ap (λ n. lists_order (drop n left) (drop n right)) next

pub items_equal-returns : goal.items_equal-returns
items_equal-returns t c =
    let left = c.args.left.now in
    let right = c.args.right.now in
    let l = c.loop-place in
    let even : length left ≡ length right = omega (arith, c.if-left-right.false) in
    let ended : l.place ≡ length left = omega (arith, c.loop-place-test.false, l.auto.place-end) in
    sym (ap is_eq l.invariant ∙ all_even left right l.place even ended)

pub map_equal-returns-in-Some : goal.map_equal-returns-in-Some
map_equal-returns-in-Some t c =
    let right = map_of_members c.args.right.now c.in-Some.all.now c.in-Some.ensures in
    c.pairs_equal.ensures ∙ ap (λ v. same (meaning (object (members c.args.left.now))) (meaning v)) right

pub pairs_equal-returns-then-len : goal.pairs_equal-returns-then-len
pairs_equal-returns-then-len t c =
    sym (uneven c.args.left.now c.args.right.now c.len.ensures.distinct c.len-2.ensures.distinct
    (λ even. omega (arith, even, c.if-len.true, c.len.ensures.len, c.len-2.ensures.len)))

pub pairs_equal-loop-key-init : goal.pairs_equal-loop-key-init
pairs_equal-loop-key-init t c =
    let right = c.args.right.now in
    let all = c.into_iter-key-iterator.ensures.into_iter_gives ∙ c.iter-key-items.ensures.pairs in
    let depths : members_depth (members c.into_iter-key-iterator.result) ≡ members_depth (members c.args.left.now) = ap (λ l. members_depth (members l)) all in
    record { within = omega (arith, depths); walk = ap (least_met (from_left right) None) (sym all) }

pub pairs_equal-alike-requires : goal.pairs_equal-alike-requires
pairs_equal-alike-requires t c =
    let p : KeyForm × Form = (key_form c.in-Some.key.now, c.in-Some.value.now) in
    let less_deep = first_depth c.loop-key.key-iterator c.next.new.self p c.in-Some.ensures.steps in
    let within = c.loop-key.invariant.within in
    (omega (arith, less_deep.0, within), tt)

pub pairs_equal-returns-then-not-alike : goal.pairs_equal-returns-then-not-alike
pairs_equal-returns-then-not-alike t c =
    let p : KeyForm × Form = (key_form c.in-Some.key.now, c.in-Some.value.now) in
    let left = c.args.left.now in
    let right = c.args.right.now in
    let walk = c.loop-key.invariant.walk ∙ ap (least_met (from_left right) None) c.in-Some.ensures.steps in
    let how = ap (λ o. not (is_some (differing (Some c.in-Some.value.now) o))) (sym c.get.ensures) ∙ sym c.alike.ensures ∙ c.if-not-alike.true in
    sym (met_here left right c.len.ensures.distinct c.len-2.ensures.distinct p c.next.new.self walk how)

pub pairs_equal-loop-key-preserved : goal.pairs_equal-loop-key-preserved
pairs_equal-loop-key-preserved t c =
    let p : KeyForm × Form = (key_form c.in-Some.key.now, c.in-Some.value.now) in
    let right = c.args.right.now in
    let rest = c.next.new.self in
    let less_deep = first_depth c.loop-key.key-iterator rest p c.in-Some.ensures.steps in
    let within = c.loop-key.invariant.within in
    let no_deeper : members_depth (members rest) ≤ members_depth (members c.args.left.now) = omega (arith, less_deep.1, within) in
    let how = ap (λ o. not (is_some (differing (Some c.in-Some.value.now) o))) (sym c.get.ensures) ∙ sym c.alike.ensures ∙ c.if-not-alike.false in
    record {
      within = no_deeper;
      walk = c.loop-key.invariant.walk ∙ ap (least_met (from_left right) None) c.in-Some.ensures.steps
          ∙ ap (λ l. least_met (from_left right) l rest) (none_new p.0 (from_left right p) how);
    }

pub pairs_equal-returns : goal.pairs_equal-returns
pairs_equal-returns t c =
    let left = c.args.left.now in
    let right = c.args.right.now in
    let none = c.loop-key.invariant.walk ∙ ap (least_met (from_left right) None) c.in-None.ensures.steps.0 in
    sym (met_nowhere left right c.len.ensures.distinct c.len-2.ensures.distinct none (omega (arith, c.if-len.false, c.len.ensures.len, c.len-2.ensures.len)))
