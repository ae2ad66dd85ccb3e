use Rattle.std.proofs.Common.{◌∙◌, sym}
use Rattle.std.proofs.lemmas.Bool.{false≢true}
use Rattle.std.specs.FinMap.{empty}
use Rattle.tera_context.proofs.Extends.{holds_on_err, none_begins, nothing_taken}
use Rattle.tera_context.proofs.context.Context.extend.Goals as goal

pub returns-in_err-take_over-clause-part : goal.returns-in_err-take_over-clause-part
returns-in_err-take_over-clause-part c =
    holds_on_err c.from_residual.result _ (
      empty,
      none_begins c.args.source (λ none. false≢true (c.in_err-take_over.ensures.nothing (c.source.view_is ∙ none))),
      c.in_err-take_over.ensures.unchanged ∙ c.self.view_is ∙ sym (nothing_taken c.args.self.now),
    )
