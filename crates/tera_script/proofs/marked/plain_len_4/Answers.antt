use Rattle.std.proofs.Common.{arith}
use Rattle.tera_script.proofs.MarkedLanes.{look_first, look_last}
use Rattle.tera_script.proofs.marked.plain_len_4.Goals as goal

pub returns-then-run-lt4 : goal.returns-then-run-lt4
returns-then-run-lt4 c = look_first c.args.most c.args.bytes.now 4 _ c.requires.least c.run_4-run.ensures.counted c.if-run-lt4.true

pub returns : goal.returns
returns c =
    look_last c.args.most c.args.bytes.now 4 _ _ c.requires.least (omega (arith, c.requires.most)) c.run_4-run.ensures.counted
    (omega (arith, c.if-run-lt4.false)) c.run_4.ensures.counted
