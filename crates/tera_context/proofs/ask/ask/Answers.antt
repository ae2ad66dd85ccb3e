use Rattle.tera_context.proofs.ask.ask.Goals as goal

pub returns-in-Escape : goal.returns-in-Escape
returns-in-Escape c = rw (c.in-Escape.is) c.escape.ensures
