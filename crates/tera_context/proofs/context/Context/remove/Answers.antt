use Rattle.std.proofs.Common.{◌∙◌, sym, ap}
use Rattle.std.specs.FinMap.{get, remove}
use Rattle.tera_context.proofs.Names.{get_named, named_remove}
use Rattle.tera_context.proofs.context.Context.remove.Goals as goal

pub returns-clause-result : goal.returns-clause-result
returns-clause-result c =
    c.swap_remove.ensures.value
    ∙ sym (get_named c.self.inside.values.entries c.args.name.now)
    ∙ ap (λ s. get s c.args.name.now) c.self.view_is

pub returns-clause-state : goal.returns-clause-state
returns-clause-state c =
    named_remove c.self.inside.values c.swap_remove.new.self c.args.name.now c.swap_remove.ensures.updates
    ∙ ap (λ s. remove s c.args.name.now) c.self.view_is
