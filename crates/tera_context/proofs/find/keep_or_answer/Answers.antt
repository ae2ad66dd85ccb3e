use Rattle.std.proofs.Common.{inr, refl}
use Rattle.tera_report.specs.Refusal.{memory_refused}
use Rattle.tera_context.proofs.ShownLaws.{want_shows}
use Rattle.tera_context.proofs.find.keep_or_answer.Goals as goal

pub returns-in-Err : goal.returns-in-Err
returns-in-Err c search found = record {
  shown = (
    memory_refused,
    want_shows c.from.result c.from.ensures,
    inr (inr (rw (c.in-Some.is, found) c.in-Err.ensures.absent), refl, c.in-Err.ensures.unchanged),
  );
}
