use Rattle.std.proofs.Common.{◌∙◌}
use Rattle.std.proofs.lemmas.Bool.{false≢true}
use Rattle.tera_context.proofs.Extends.{no_pairs}
use Rattle.tera_context.proofs.context.Context.clone.Goals as goal

pub returns-in_err-values-clause-nothing : goal.returns-in_err-values-clause-nothing
returns-in_err-values-clause-nothing c none =
    let nothing = no_pairs c.self.inside.values.entries (c.self.view_is ∙ none) in
    absurd (false≢true (c.in_err-values.ensures.succeeds (c.len-len.ensures.len ∙ nothing)))
