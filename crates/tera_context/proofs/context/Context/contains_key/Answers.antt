use Rattle.std.proofs.Common.{◌∙◌, sym, ap}
use Rattle.std.specs.FinMap.{get}
use Rattle.std.specs.Option.{is_some}
use Rattle.tera_context.proofs.Names.{get_named}
use Rattle.tera_context.proofs.context.Context.contains_key.Goals as goal

pub returns : goal.returns
returns c =
    c.contains_key.ensures
    ∙ ap is_some (sym (get_named c.self.inside.values.entries c.args.name.now) ∙ ap (λ s. get s c.args.name.now) c.self.view_is)
