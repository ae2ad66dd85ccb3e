use Rattle.std.proofs.Common.{arith}
use Rattle.tera_script.proofs.MarkedLanes.{look_first, look_last}
use Rattle.tera_script.proofs.marked.plain_len_8.Goals as goal

pub returns-then-run-lt8 : goal.returns-then-run-lt8
returns-then-run-lt8 c = look_first c.args.most c.args.bytes.now 8 _ c.requires.least c.run_8-run.ensures.counted c.if-run-lt8.true

pub returns : goal.returns
returns c =
    look_last c.args.most c.args.bytes.now 8 _ _ c.requires.least (omega (arith, c.requires.most)) c.run_8-run.ensures.counted
    (omega (arith, c.if-run-lt8.false)) c.run_8.ensures.counted
