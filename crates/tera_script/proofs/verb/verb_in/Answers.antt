use Rattle.std.proofs.Common.{ap, length, sym, ◌∙◌, arith}
use Rattle.std.proofs.lemmas.Slice.Eq.{bytes_eq-Decides}
use Rattle.tera_script.proofs.Verbs.{no_short_verb, no_verb, no_other_verb}
use Rattle.tera_script.proofs.verb.verb_in.Goals as goal

pub returns-in_err-first : goal.returns-in_err-first
returns-in_err-first c = rw c.from_residual.ensures (no_short_verb c.args.word.now (omega (arith, c.in_err-first.ensures.cases)))

pub returns-in_err-second : goal.returns-in_err-second
returns-in_err-second c =
    let long = ap length c.in_ok-first.ensures.cases.0 in
    rw c.from_residual-in_err-second.ensures (no_short_verb c.args.word.now (omega (arith, c.in_err-second.ensures.cases)))

pub returns-in_err-known : goal.returns-in_err-known
returns-in_err-known c =
    rw c.from_residual-in_err-known.ensures
    (no_verb c.in_ok-first.ensures.cases.0 c.in_ok-second.ensures.cases.0 (λ v like. let some = c.in_err-known.ensures.found v like in cc))

pub returns-else-eq : goal.returns-else-eq
returns-else-eq c =
    no_other_verb c.in_ok-first.ensures.cases.0 c.in_ok-second.ensures.cases.0 c.in_ok-known.known.verb c.in_ok-known.ensures.like (λ is.
    let yes = (bytes_eq-Decides c.in_ok-known.spelled.now c.args.word.now).1 (sym c.in_ok-known.ensures.word ∙ is) in
    cc (c.eq.ensures, c.if-eq.false))
