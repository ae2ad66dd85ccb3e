use Rattle.std.proofs.Common.{ap, sym, ◌∙◌, take, arith}
use Rattle.std.specs.BTreeMap.{is_at}
use Rattle.std.specs.Cmp.{on_total}
use Rattle.std.specs.List.{find, list_any}
use Rattle.std.specs.Ordering.{eq_by_cmp, on}
use Rattle.tera.proofs.FindLaws.{find_first}
use Rattle.tera.proofs.OrderLaws.{compare_total}
use Rattle.tera.specs.Meaning.{meaning}
use Rattle.tera.specs.Order.{compare}
use Rattle.tera_filters.proofs.FirstOnes.{all_seen, held_where_same, one_more}
use Rattle.tera_filters.proofs.ordered.first_ones.Goals as goal

pub loop-item-preserved : goal.loop-item-preserved
loop-item-preserved c =
    let items = c.args.items.now in
    let i = c.loop-item.item-index in
    let x = c.item-item.result in
    record {
      rises = c.in_ok-keep_new.ensures.rises;
      found = λ q. ap (find (eq_by_cmp (on meaning compare) q)) c.in_ok-keep_new.ensures.keys
          ∙ find_first (on meaning compare) (on_total meaning compare_total) c.loop-item.seen.keys items i x q c.loop-item-test.true
          c.item-item.is c.loop-item.invariant.rises (c.loop-item.invariant.found q);
      kept = one_more items i x c.loop-item.made.items c.keep_new.new.made.items (list_any (is_at (on meaning compare x)) c.loop-item.seen.keys)
          c.loop-item-test.true c.item-item.is
          (sym (held_where_same c.loop-item.seen.keys (take i items) x (c.loop-item.invariant.found x)))
          c.in_ok-keep_new.ensures.kept c.loop-item.invariant.kept;
    }

pub returns-clause-ok : goal.returns-clause-ok
returns-clause-ok c =
    all_seen c.args.items.now c.loop-item.item-index c.loop-item.made.items (omega (arith, c.loop-item-test.false))
    c.loop-item.invariant.kept
