use Rattle.std.proofs.Common.{Ok, ap, sym, ◌∙◌, refl}
use Rattle.tera_meaning.specs.Tree.{array, items}
use Rattle.tera_values.proofs.LookupLemmas.{list_holds}
use Rattle.tera_values.proofs.contains.has_item.Goals as goal

pub returns : goal.returns
returns c =
    let all = c.args.all.now in
    list_holds (array (items all)) c.args.needle.now all refl ∙ ap Ok (sym c.contains.ensures.value)
