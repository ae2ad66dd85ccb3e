use Rattle.std.proofs.Common.{codes, refl, ◌++◌, ◌∙◌, ap}
use Rattle.tera_replies.proofs.laws.refusals_are_replied_by_their_text.Goals as goal

pub returns-clause-zero : goal.returns-clause-zero
returns-clause-zero c = (codes "Cannot divide by 0", refl, refl)

pub returns-clause-memory : goal.returns-clause-memory
returns-clause-memory c = (codes "Out of memory", refl, refl)

pub returns-clause-failed : goal.returns-clause-failed
returns-clause-failed c kind line (words, (name, told), written) = (name, written ∙ ap (λ w. codes "error: " ++ w) told)
