use Rattle.std.proofs.Common.{◌<◌, ◌^◌, ◌∙◌, ◌∷◌, [], ap, arith, length, length-append, refl, rules, sym}
use Rattle.tera_values.proofs.SliceLemmas.{none_so_far, copied, all_so_far, room_left}
use Rattle.tera_values.proofs.slice.strided_items.Goals as goal

pub loop-at-init : goal.loop-at-init
loop-at-init c =
    let fits : c.args.stride.from < 2 ^ 64 = search rules in
    let count = c.count.ensures.some c.requires.moves in
    record {
      so_far = none_so_far _ _ c.args.stride.from c.args.stride.until c.args.stride.by fits c.in_ok-made.ensures.items;
      so_many = c.in_ok-made.ensures.len ∙ sym (ap length c.in_ok-made.ensures.items);
      room = omega (arith, c.in_ok-made.ensures.capacity, count);
    }

pub push_copy-requires : goal.push_copy-requires
push_copy-requires c =
    let fits : c.args.stride.until < 2 ^ 64 = search rules in
    let less = room_left _ _ c.args.stride.from c.args.stride.until c.args.stride.by _ _ c.loop-at-test.true fits c.requires.moves
    c.loop-at.invariant.room c.loop-at.invariant.so_far in
    omega (arith, less, c.loop-at.invariant.so_many)

pub loop-at-preserved : goal.loop-at-preserved
loop-at-preserved c =
    let fits : c.args.stride.until < 2 ^ 64 = search rules in
    let items = c.in_ok-push_copy.ensures.items in
    let longer = length-append c.loop-at.made.items (c.item_from.result.now ∷ []) in
    record {
      so_far = copied _ _ _ _ _ c.args.stride.from c.args.stride.until c.args.stride.by _ _ c.loop-at-test.true fits c.item_from.ensures
          c.loop-at.invariant.so_far refl items c.saturating_add-at.ensures;
      so_many = omega (arith, c.in_ok-push_copy.ensures.len, c.loop-at.invariant.so_many, longer, ap length items);
      room = omega (arith, c.in_ok-push_copy.ensures.capacity, c.loop-at.invariant.room);
    }

pub loop-at-smaller : goal.loop-at-smaller
loop-at-smaller c =
    let fits : c.args.stride.until < 2 ^ 64 = search rules in
    omega (arith, c.saturating_add-at.ensures, c.loop-at-test.true, c.requires.moves)

pub returns-clause-ok : goal.returns-clause-ok
returns-clause-ok c = all_so_far _ _ c.args.stride.from c.args.stride.until c.args.stride.by _ c.loop-at-test.false c.loop-at.invariant.so_far
