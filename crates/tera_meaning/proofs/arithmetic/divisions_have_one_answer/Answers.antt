use Rattle.std.proofs.Common.{rules}
use Rattle.tera_meaning.proofs.DivisionLemmas.{same_quotient, same_remainder}
use Rattle.tera_meaning.proofs.arithmetic.divisions_have_one_answer.Goals as goal

pub returns-clause-are : goal.returns-clause-are
returns-clause-are c = search rules

pub returns-clause-only : goal.returns-clause-only
returns-clause-only c a b q r n h =
    let known = returns-clause-are c a b n in
    (same_quotient a b q r _ _ h known, same_remainder a b q r _ _ h known)
