use Rattle.std.proofs.Common.{arith}
use Rattle.tera_script.proofs.MarkedLanes.{all_plain, plain_before, plain_within}
use Rattle.tera_script.proofs.marked.run_16.Goals as goal

pub returns-then-marked-eq0-clause-counted : goal.returns-then-marked-eq0-clause-counted
returns-then-marked-eq0-clause-counted c =
    all_plain c.args.most c.args.bytes.now c.args.at 16 c.requires (omega arith) c.if-marked-eq0.true

pub returns-clause-counted : goal.returns-clause-counted
returns-clause-counted c =
    plain_before c.args.most c.args.bytes.now c.args.at 16 c.requires (omega arith) c.if-marked-eq0.false

pub returns-clause-within : goal.returns-clause-within
returns-clause-within c =
    plain_within c.args.most c.args.bytes.now c.args.at 16 c.requires (omega arith) c.if-marked-eq0.false
