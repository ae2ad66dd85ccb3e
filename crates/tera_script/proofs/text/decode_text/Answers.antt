use Rattle.std.proofs.Common.{◌∷◌, ap, arith, length, length-append}
use Rattle.tera_script.specs.TextParts.{text_from}
use Rattle.tera_script.proofs.Texts.{stopped, closed, no_escape, escaped}
use Rattle.tera_script.proofs.text.decode_text.Goals as goal

pub returns-in_default : goal.returns-in_default
unfolding text_from
returns-in_default c = stopped _ _ _ _ _ _ c.in_ok-rest.ensures.run.1 c.in_ok-rest.ensures.run.2 c.loop-decoded.invariant (grind arith)

pub returns-then-byte-eq34 : goal.returns-then-byte-eq34
returns-then-byte-eq34 c =
    closed _ _ _ _ _ _ c.in_ok-rest.ensures.run.1 c.in_ok-rest.ensures.run.2 c.loop-decoded.invariant c.in-Some.ensures.cases.0 c.if-byte-eq34.true

pub overflow_sub-result : goal.overflow_sub-result
overflow_sub-result c =
    let text = closed _ _ _ _ _ _ c.in_ok-rest.ensures.run.1 c.in_ok-rest.ensures.run.2 c.loop-decoded.invariant c.in-Some.ensures.cases.0
    c.if-byte-eq34.true in
    omega (arith, ap length text.3, length-append text.0 (34 ∷ text.1), text.4)

pub returns-in_default-take_escape : goal.returns-in_default-take_escape
returns-in_default-take_escape c =
    no_escape _ _ _ _ _ _ c.in_ok-rest.ensures.run.1 c.in_ok-rest.ensures.run.2 c.loop-decoded.invariant c.in-Some.ensures.cases.0 c.if-byte-eq34.false
    c.in_default-take_escape.ensures.escape

pub loop-decoded-preserved : goal.loop-decoded-preserved
loop-decoded-preserved c =
    rw (c.in_ok-extend_from_slice.ensures.items, c.as_bytes.ensures.value, c.encode_utf8.ensures.value)
    (escaped _ _ _ _ _ _ c.in_ok-rest.ensures.run.1 c.in_ok-rest.ensures.run.2 c.loop-decoded.invariant c.in-Some-take_escape.next.now
    c.in-Some-take_escape.character c.in-Some.ensures.cases.0 c.if-byte-eq34.false c.in-Some-take_escape.ensures.escape)
