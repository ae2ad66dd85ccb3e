use Rattle.std.proofs.Common.{◌∙◌, arith}
use Rattle.tera_c.proofs.EscapeLemmas.{byte_fits}
use Rattle.tera_c.proofs.escape.put_rest.Goals as goal

pub returns-then-room-full : goal.returns-then-room-full
returns-then-room-full c = λ long.
    let l = c.loop-end in
    let fits = byte_fits c.args.bytes.now l.room l.end l.full c.loop-end-test.true l.invariant.0 (l.invariant.1 ∙ long) in
    absurd (omega (arith, fits, c.byte_len.ensures, c.if-room-full.true))
