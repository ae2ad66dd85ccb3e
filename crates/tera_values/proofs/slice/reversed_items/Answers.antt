use Rattle.std.proofs.Common.{◌<◌, arith, length, refl}
use Rattle.tera_values.proofs.SliceLemmas.{last_copied}
use Rattle.tera_values.proofs.slice.reversed_items.Goals as goal

pub loop-place-preserved : goal.loop-place-preserved
loop-place-preserved c =
    let inside : c.loop-place.place < length c.args.all.now = omega (arith, c.loop-place-test.true, c.loop-place.auto.place-end) in
    record {
      copied = last_copied _ _ _ _ _ _ inside c.item_from.ensures refl c.loop-place.invariant.copied c.in_ok-push_copy.ensures.items;
      so_many = omega (arith, c.in_ok-push_copy.ensures.len, c.loop-place.invariant.so_many);
      room = omega (arith, c.in_ok-push_copy.ensures.capacity, c.loop-place.invariant.room);
    }
