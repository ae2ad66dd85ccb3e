use Rattle.tera_context.proofs.steps.step.Goals as goal

pub returns-in-Escape-clause-outcome : goal.returns-in-Escape-clause-outcome
returns-in-Escape-clause-outcome c = rw (c.in-Escape.is, ← c.deref-in-Escape.ensures) c.ask-in-Escape.ensures
