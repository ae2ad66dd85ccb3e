use Rattle.std.proofs.Common.{inr, refl}
use Rattle.tera_context.proofs.ShownLaws.{want_shown}
use Rattle.tera_context.proofs.steps.extend.Goals as goal

pub returns-in_err-extend-clause-outcome : goal.returns-in_err-extend-clause-outcome
returns-in_err-extend-clause-outcome c =
    want_shown c.from_residual.result c.in_err-extend.field-0.0 _ c.from_residual.ensures.1 c.in_err-extend.ensures.err
    (inr (c.in_err-extend.ensures.absent, refl, c.in_err-extend.ensures.part))
