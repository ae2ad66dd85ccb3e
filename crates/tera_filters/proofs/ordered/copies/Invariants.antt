use Rattle.std.proofs.Common.{◌≡◌, take}
use Rattle.tera_filters.proofs.ordered.copies.Given as goal

-- the items so far are copied
abbrev pub invariant-loop-item : goal.invariant-loop-item
invariant-loop-item l = l.made.items ≡ take l.item-index l.items
