use Rattle.tera.specs.Growing.{grown_bytes}
use Rattle.tera_filters.proofs.Joined.{JoinsUpTo}
use Rattle.tera_filters.proofs.texts.put_others.Given as goal

-- the items so far are joined
abbrev pub invariant-loop-item : goal.invariant-loop-item
invariant-loop-item l = JoinsUpTo l.between l.items l.item-index (grown_bytes l.initial.out) (grown_bytes l.out)
