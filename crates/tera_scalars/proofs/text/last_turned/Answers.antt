use Rattle.std.proofs.Common.{ap, ◌∙◌, reverse}
use Rattle.std.specs.Str.{chars}
use Rattle.tera_scalars.proofs.TurnLemmas.{behind_left}
use Rattle.tera_scalars.proofs.text.last_turned.Goals as goal

pub split_at-requires : goal.split_at-requires
split_at-requires c = (behind_left _ _ c.args.count c.utf8.text c.behind-rest.utf8 c.behind-rest.ensures).0

pub returns : goal.returns
returns c =
    let are = (behind_left _ _ c.args.count c.utf8.text c.behind-rest.utf8 c.behind-rest.ensures).1 in
    rw (← (ap (λ bs. reverse (chars bs)) c.split_at.ensures.back ∙ are)) c.whole_turned.ensures
