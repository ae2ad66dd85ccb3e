use Rattle.std.proofs.Common.{◌∙◌}
use Rattle.std.proofs.lemmas.Bool.Decides.{Decides-at}
use Rattle.tera_meaning.proofs.EqualLaws.{equal_is}
use Rattle.tera_meaning.specs.State.{states_equal}
use Rattle.tera_context.proofs.Extends.{equal_maps}
use Rattle.tera_context.proofs.context.ContextPartialEq.eq.Goals as goal

pub returns-clause-value : goal.returns-clause-value
returns-clause-value c =
    c.eq.ensures
    ∙ equal_maps c.self.inside.values c.other.inside.values
    ∙ (λ i. states_equal (c.self.view_is i) (c.other.view_is i))

pub returns-clause-meaning : goal.returns-clause-meaning
returns-clause-meaning c =
    Decides-at c.eq.result (states_equal c.args.self.now c.args.other.now) (returns-clause-value c)
    (equal_is c.args.self.now c.args.other.now)
