use Rattle.std.proofs.Common.{Ok, ap, sym, ◌∙◌, refl}
use Rattle.std.specs.Option.{is_some}
use Rattle.tera_meaning.specs.Tree.{object, members}
use Rattle.tera_values.proofs.LookupLemmas.{pairs_hold, some_copied}
use Rattle.tera_values.proofs.contains.has_key.Goals as goal

pub returns : goal.returns
returns c =
    let pairs = c.args.all.now in
    let told = c.is_some.ensures ∙ sym (some_copied c.find_value.result) ∙ ap is_some c.find_value.ensures in
    pairs_hold (object (members pairs)) c.args.needle.now pairs refl ∙ ap Ok (sym told)
