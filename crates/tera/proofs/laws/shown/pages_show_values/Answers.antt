-- By the lemmas on the printed text.
use Rattle.tera.proofs.PageLaws.{shown_exact, shown_plainly}
use Rattle.tera.proofs.laws.shown.pages_show_values.Goals as goal

pub returns-clause-known : goal.returns-clause-known
returns-clause-known c = shown_exact

pub returns-clause-escaped : goal.returns-clause-escaped
returns-clause-escaped c = shown_plainly
