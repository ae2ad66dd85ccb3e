use Rattle.tera_script.proofs.Words.{whole_word}
use Rattle.tera_script.proofs.number.short_digits.Goals as goal

pub returns-clause-digits : goal.returns-clause-digits
returns-clause-digits c =
    whole_word c.args.bytes.now c.loop-digit.rest.now c.in_ok-first.others.now c.in_ok-first.first c.loop-digit.magnitude c.in_ok-first.ensures
    c.if-not-ends_word.ensures c.loop-digit.invariant.0
