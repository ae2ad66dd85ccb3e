use Rattle.std.proofs.Common.{flat_map, rules, sym, ap, ◌∙◌, map-id, ◌++◌, codes}
use Rattle.std.proofs.lemmas.Iterator.{YieldsList-from_chars}
use Rattle.std.proofs.lemmas.Iterator.Consumers.{YieldsList-end}
use Rattle.tera_json.specs.Places.{pointed}
use Rattle.tera_json.proofs.place.in_member.Goals as goal

pub returns : goal.returns
returns c =
    let end = YieldsList-end (YieldsList-from_chars c.args.name.now c.utf8.name cc) c.loop-c.yielded _ c.loop-c.yielded_by _ _ c.in-None.is
    c.next.ensures.steps in
    let all = c.loop-c.invariant ∙ ap (λ cs. codes "/" ++ flat_map pointed cs) (sym (map-id c.loop-c.yielded) ∙ end.0) in
    search rules
