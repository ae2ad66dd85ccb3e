use Rattle.std.proofs.Common.{◌+◌, arith}
use Rattle.std.proofs.lemmas.List.Folds.{length-flat_map-take}
use Rattle.tera_report.specs.Escaping.{spelling, token_of}
use Rattle.tera_c.proofs.MeasureLemmas.{six_times, so_far, few_so_far}
use Rattle.tera_c.proofs.measure.escaped_len_of.Goals as goal

pub overflow_add-len : goal.overflow_add-len
overflow_add-len c =
    let more = so_far c.as_bytes-bytes.result.now c.loop-at.at 32 _ _ c.loop-at.invariant.1 c.block_len-len.ensures in
    omega (arith, few_so_far c.as_bytes-bytes.result.now (c.loop-at.at + 32) _ more, c.if-bytes.false)

pub loop-at-preserved : goal.loop-at-preserved
loop-at-preserved c = (
  omega arith,
  so_far c.as_bytes-bytes.result.now c.loop-at.at 32 _ _ c.loop-at.invariant.1 c.block_len-len.ensures,
)

pub overflow_add-len-in-loop-end : goal.overflow_add-len-in-loop-end
overflow_add-len-in-loop-end c =
    let all = length-flat_map-take (λ byte. spelling (token_of byte)) c.as_bytes-bytes.result.now c.loop-end.end 0 (omega arith) in
    omega (arith, all, c.loop-end.invariant, c.byte_len-len.ensures, six_times c.as_bytes-bytes.result.now, c.if-bytes.false)
