use Rattle.std.proofs.Common.{arith}
use Rattle.tera_scalars.proofs.TurnLemmas.{spelled}
use Rattle.tera_scalars.proofs.text.width_at.Goals as goal

pub returns-then-first-lt128 : goal.returns-then-first-lt128
returns-then-first-lt128 c =
    let (d, rest, split, left, is, inside) = spelled c.args.bytes.now c.args.at c.requires.text c.requires.within in
    record { spells = (d, rest, split, left, omega (arith, is.one)); within = omega arith; few = omega arith }

pub returns-then-first-lt224 : goal.returns-then-first-lt224
returns-then-first-lt224 c =
    let (d, rest, split, left, is, inside) = spelled c.args.bytes.now c.args.at c.requires.text c.requires.within in
    record { spells = (d, rest, split, left, omega (arith, is.two)); within = omega (arith, is.two); few = omega arith }

pub returns-then-first-lt240 : goal.returns-then-first-lt240
returns-then-first-lt240 c =
    let (d, rest, split, left, is, inside) = spelled c.args.bytes.now c.args.at c.requires.text c.requires.within in
    record { spells = (d, rest, split, left, omega (arith, is.three)); within = omega (arith, is.three); few = omega arith }

pub returns-else-first-lt240 : goal.returns-else-first-lt240
returns-else-first-lt240 c =
    let (d, rest, split, left, is, inside) = spelled c.args.bytes.now c.args.at c.requires.text c.requires.within in
    record { spells = (d, rest, split, left, omega (arith, is.four)); within = omega (arith, is.four); few = omega arith }
