use Rattle.std.proofs.Common.{◌≡◌, ◌<◌, ◌∙◌, Some, arith, sym, ap, min, length}
use Rattle.tera_meaning.specs.Decided.{decided}
use Rattle.tera_meaning.specs.Meaning.{meaning}
use Rattle.tera_meaning.specs.Tree.{array, items}
use Rattle.tera_values.proofs.DecidedParts.{decided_ended}
use Rattle.tera_values.proofs.PartsLaws.{depth_at, array_of_items}
use Rattle.tera_values.proofs.decided.+partial_order.Goals as goal

pub partial_array_order-returns-in-Some : goal.partial_array_order-returns-in-Some
partial_array_order-returns-in-Some t c =
    let right = array_of_items c.args.right.now c.in-Some.all.now c.in-Some.ensures in
    c.partial_items_order.ensures ∙ ap (λ v. decided (meaning (array (items c.args.left.now))) (meaning v)) right

pub partial_items_order-partial_order-first-requires : goal.partial_items_order-partial_order-first-requires
partial_items_order-partial_order-first-requires t c =
    let item = c.index-left-place in
    let inside : c.loop-place.place < length c.args.left.now = omega (arith, c.loop-place-test.true, c.min-place-end.ensures) in
    let less_deep = depth_at c.args.left.now c.loop-place.place item.result inside item.is in
    (omega (arith, less_deep), tt)

pub partial_items_order-returns : goal.partial_items_order-returns
partial_items_order-returns t c =
    let left = c.args.left.now in
    let right = c.args.right.now in
    let l = c.loop-place in
    let ended : l.place ≡ min (length left) (length right) = omega (arith, c.loop-place-test.false, l.auto.place-end, c.min-place-end.ensures) in
    ap Some c.cmp.ensures ∙ sym (l.invariant ∙ decided_ended left right l.place ended)
