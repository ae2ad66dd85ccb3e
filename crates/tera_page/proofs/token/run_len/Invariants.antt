use Rattle.tera_page.proofs.Fronts.{Solid}
use Rattle.tera_page.proofs.token.run_len.Given as goal

-- nothing begins so far, and there are blanks from `solid` on, and none before it
abbrev pub invariant-loop-at : goal.invariant-loop-at
invariant-loop-at l = Solid l.bytes l.solid l.at
