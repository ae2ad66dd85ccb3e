-- By what the pairs that are left have at a name.
use Rattle.tera_render.proofs.NameLemmas.{named_all, named_none, named_on}
use Rattle.tera_render.proofs.names.names_in.Goals as goal

pub loop-key-init : goal.loop-key-init
loop-key-init c =
    named_none c.args.all _ _ c.into_iter-key-iterator.ensures.into_iter_gives.1 c.into_iter-key-iterator.ensures.into_iter_gives.0
    c.with_hasher-names.ensures

pub loop-key-preserved : goal.loop-key-preserved
loop-key-preserved c =
    named_on c.keys_that_tie_find_the_same.ensures.found c.args.all c.loop-key.key-iterator _ c.loop-key.names _ _ _
    c.in-Some.ensures.steps c.in_ok-keep_pair.ensures.ok c.loop-key.invariant

pub loop-key-preserved-in_ok-keep_pair : goal.loop-key-preserved-in_ok-keep_pair
loop-key-preserved-in_ok-keep_pair c =
    named_on c.keys_that_tie_find_the_same.ensures.found c.args.all c.loop-key.key-iterator _ c.loop-key.names _ _ _
    c.in-Some.ensures.steps c.in_ok-keep_pair.ensures.ok c.loop-key.invariant

pub returns-clause-ok : goal.returns-clause-ok
returns-clause-ok c = named_all c.args.all _ c.loop-key.names c.in-None.ensures.steps.0 c.loop-key.invariant
