use Rattle.std.proofs.Common.{◌-◌, ◌∙◌, ap, arith, length, get_or, sym}
use Rattle.tera_values.proofs.KeyLemmas.{long_apart, byte_apart}
use Rattle.tera_values.proofs.key_text.is_text.Goals as goal

pub returns-then-len-right : goal.returns-then-len-right
returns-then-len-right c =
    let left = ap length c.as_bytes-left.ensures.value in
    let right = ap length c.as_bytes-right.ensures.value in
    long_apart c.args.text.now c.args.other.now (λ e. omega (arith, e, left, right, c.if-len-right.true))

pub returns-then-left-len : goal.returns-then-left-len
returns-then-left-len c =
    let i = length c.as_bytes-left.result.now - 1 in
    byte_apart c.args.text.now c.args.other.now i
    (λ e. c.if-left-len.true (ap (λ l. get_or l i 0) c.as_bytes-left.ensures.value ∙ e ∙ sym (ap (λ l. get_or l i 0) c.as_bytes-right.ensures.value)))
