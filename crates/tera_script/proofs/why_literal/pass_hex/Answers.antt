use Rattle.tera_script.proofs.Passed.{hex_stopped, hex_end, hex_odd, hex_bad, hex_on}
use Rattle.tera_script.proofs.why_literal.pass_hex.Goals as goal

pub returns-in_default : goal.returns-in_default
returns-in_default c =
    hex_stopped c.loop-high.invariant.0 c.loop-high.rest.now c.args.bytes.now c.loop-high.invariant.1
    c.in_default.ensures.cases

pub returns-then-high-eq34 : goal.returns-then-high-eq34
returns-then-high-eq34 c =
    hex_end c.loop-high.invariant.0 c.loop-high.rest.now c.args.bytes.now c.loop-high.invariant.1
    c.in-Some.ensures.cases.0 c.if-high-eq34.true

pub returns-in_default-split_first : goal.returns-in_default-split_first
returns-in_default-split_first c =
    hex_odd c.loop-high.invariant.0 c.loop-high.rest.now c.args.bytes.now c.loop-high.invariant.1
    c.in-Some.ensures.cases.0 c.if-high-eq34.false c.in_default-split_first.ensures.cases

pub returns-in_default-byte_of : goal.returns-in_default-byte_of
returns-in_default-byte_of c =
    hex_bad c.loop-high.invariant.0 c.loop-high.rest.now c.args.bytes.now c.loop-high.invariant.1
    c.in-Some.ensures.cases.0 c.if-high-eq34.false c.in-Some-split_first.ensures.cases.0 c.in_default-byte_of.ensures

pub loop-high-preserved : goal.loop-high-preserved
loop-high-preserved c =
    hex_on c.loop-high.invariant.0 c.loop-high.rest.now c.args.bytes.now c.loop-high.invariant.1
    c.in-Some.ensures.cases.0 c.in-Some-split_first.ensures.cases.0 c.in-Some-byte_of.ensures.0 c.in-Some-byte_of.ensures.1
