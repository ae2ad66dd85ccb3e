use Rattle.tera_script.proofs.Passed.{text_stopped, text_closed, text_unescaped, text_escaped}
use Rattle.tera_script.proofs.why_literal.pass_text.Goals as goal

pub returns-in_default : goal.returns-in_default
returns-in_default c =
    text_stopped c.loop-byte.invariant c.run_length.result c.run_length.ensures.within c.run_length.ensures.plain c.run_length.ensures.ends
    c.split_at.ensures.back c.in_default.ensures.cases

pub returns-then-byte-eq34 : goal.returns-then-byte-eq34
returns-then-byte-eq34 c =
    text_closed c.loop-byte.invariant c.run_length.result c.run_length.ensures.within c.run_length.ensures.plain c.run_length.ensures.ends
    c.split_at.ensures.back c.in-Some.ensures.cases.0 c.if-byte-eq34.true

pub returns-in_default-take_escape : goal.returns-in_default-take_escape
returns-in_default-take_escape c =
    text_unescaped c.loop-byte.invariant c.run_length.result c.run_length.ensures.within c.run_length.ensures.plain c.run_length.ensures.ends
    c.split_at.ensures.back c.in-Some.ensures.cases.0 c.if-byte-eq34.false c.in_default-take_escape.ensures.escape

pub loop-byte-preserved : goal.loop-byte-preserved
loop-byte-preserved c =
    text_escaped c.loop-byte.invariant c.run_length.result c.run_length.ensures.within c.run_length.ensures.plain c.run_length.ensures.ends
    c.split_at.ensures.back c.in-Some-take_escape.next.now c.in-Some-take_escape.field-0-0 c.in-Some.ensures.cases.0 c.if-byte-eq34.false
    c.in-Some-take_escape.ensures.escape
