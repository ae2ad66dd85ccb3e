use Rattle.std.proofs.Common.{arith}
use Rattle.tera.specs.Growing.{grown_bytes}
use Rattle.tera_filters.proofs.Joined.{joins_last, joins_next}
use Rattle.tera_filters.proofs.texts.put_others.Goals as goal

pub loop-item-preserved : goal.loop-item-preserved
loop-item-preserved c =
    let put = c.in_ok-put_item.ensures.ok in
    joins_next c.args.between.now c.args.items.now c.loop-item.item-index c.item-item.result (grown_bytes c.args.out.now)
    (grown_bytes c.loop-item.out) (grown_bytes c.put.new.self) (grown_bytes c.put_item.new.out) put.0 c.loop-item-test.true c.item-item.is
    put.1 c.in_ok-put.ensures.puts.grows put.2 c.loop-item.invariant

pub returns-clause-ok : goal.returns-clause-ok
returns-clause-ok c =
    joins_last c.args.between.now c.args.items.now c.loop-item.item-index (grown_bytes c.args.out.now) (grown_bytes c.loop-item.out)
    (omega (arith, c.loop-item-test.false)) c.loop-item.invariant
