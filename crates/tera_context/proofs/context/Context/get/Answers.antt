use Rattle.std.proofs.Common.{◌≡◌, ◌∙◌, sym, ap, Option, Some, None, MatchOption, Bor}
use Rattle.std.specs.FinMap.{get}
use Rattle.std.specs.Option.{option_copied}
use Rattle.tera_meaning.specs.Form.{Form}
use Rattle.tera_context.proofs.Names.{get_named}
use Rattle.tera_context.proofs.context.Context.get.Goals as goal

lent : (found : Option (Bor Form)) (o : Option Form) → option_copied found ≡ o → MatchOption found (o ≡ None) (λ v. o ≡ Some v.now)
lent None o e = sym e
lent (Some v) o e = sym e

pub returns : goal.returns
returns c =
    lent c.get.result (get c.args.self.now c.args.name.now)
    (c.get.ensures.value ∙ sym (get_named c.self.inside.values.entries c.args.name.now) ∙ ap (λ s. get s c.args.name.now) c.self.view_is)
