use Rattle.std.proofs.Common.{arith}
use Rattle.std.proofs.lemmas.Simd.{run_in_chunk_stops}
use Rattle.tera_report.specs.Escaping.{is_special}
use Rattle.tera_report.proofs.LaneLemmas.{plain_more}
use Rattle.tera_report.proofs.pieces.ordinary_len.Goals as goal

pub returns-then-run-lt32-clause-plain : goal.returns-then-run-lt32-clause-plain
returns-then-run-lt32-clause-plain c =
    plain_more c.args.bytes.now c.loop-at.at _ (omega arith) c.ordinary_lanes-run.ensures.counted c.loop-at.invariant.1

pub returns-then-run-lt32-clause-stops : goal.returns-then-run-lt32-clause-stops
returns-then-run-lt32-clause-stops c = λ _.
    run_in_chunk_stops is_special c.args.bytes.now c.loop-at.at 32 _ 0 (omega arith) c.ordinary_lanes-run.ensures.counted c.if-run-lt32.true

pub loop-at-preserved : goal.loop-at-preserved
loop-at-preserved c = (
  omega arith,
  plain_more c.args.bytes.now c.loop-at.at _ (omega arith) c.ordinary_lanes-run.ensures.counted c.loop-at.invariant.1,
)
