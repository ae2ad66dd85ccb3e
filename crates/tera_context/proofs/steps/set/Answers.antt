use Rattle.std.proofs.Common.{inr, refl}
use Rattle.tera_report.specs.Refusal.{memory_refused}
use Rattle.tera_context.proofs.ShownLaws.{want_shows}
use Rattle.tera_context.proofs.steps.set.Goals as goal

pub returns-in-Err-clause-outcome : goal.returns-in-Err-clause-outcome
returns-in-Err-clause-outcome c =
    (memory_refused, want_shows c.from.result c.from.ensures, inr (c.in-Err.ensures.absent, refl, c.in-Err.ensures.unchanged))
