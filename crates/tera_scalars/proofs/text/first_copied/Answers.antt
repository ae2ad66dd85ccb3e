use Rattle.std.proofs.Common.{◌∙◌}
use Rattle.tera_scalars.proofs.TextLemmas.{before_left}
use Rattle.tera_scalars.proofs.text.first_copied.Goals as goal

pub overflow_sub-text : goal.overflow_sub-text
overflow_sub-text c = (before_left _ _ c.args.count c.utf8.text c.behind-rest.utf8 c.behind-rest.ensures).0

pub split_at-requires : goal.split_at-requires
split_at-requires c = (before_left _ _ c.args.count c.utf8.text c.behind-rest.utf8 c.behind-rest.ensures).1

pub returns : goal.returns
returns c =
    let front = c.split_at.ensures.front ∙ (before_left _ _ c.args.count c.utf8.text c.behind-rest.utf8 c.behind-rest.ensures).2 in
    rw (← front) c.from_str.ensures.ok
