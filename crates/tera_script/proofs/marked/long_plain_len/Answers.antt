use Rattle.std.proofs.Common.{◌-◌, arith, length}
use Rattle.tera_script.proofs.MarkedLanes.{last_look, nothing_before, plain_on, stops_here}
use Rattle.tera_script.proofs.marked.long_plain_len.Goals as goal

pub loop-at-init : goal.loop-at-init
loop-at-init c = (omega arith, nothing_before c.args.most c.args.bytes.now)

pub loop-at-preserved : goal.loop-at-preserved
loop-at-preserved c = (
  omega arith,
  plain_on c.args.most c.args.bytes.now c.loop-at.at 16 _ (omega arith) c.run_16-run.ensures.counted (omega arith) c.loop-at.invariant.1,
)

pub returns-then-run-lt16 : goal.returns-then-run-lt16
returns-then-run-lt16 c =
    stops_here c.args.most c.args.bytes.now c.loop-at.at 16 _ (omega arith) c.run_16-run.ensures.counted c.loop-at.at (omega arith) c.loop-at.invariant.1
    c.if-run-lt16.true

pub returns : goal.returns
returns c =
    last_look c.args.most c.args.bytes.now (length c.args.bytes.now - 16) 16 _ (omega arith) c.run_16.ensures.counted c.loop-at.at (omega arith) (omega arith)
    c.loop-at.invariant.1
