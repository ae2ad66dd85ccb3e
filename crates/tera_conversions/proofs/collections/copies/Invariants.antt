use Rattle.std.proofs.Common.{◌≡◌, take}
use Rattle.tera_conversions.proofs.collections.copies.Given as goal

-- those so far are copied
abbrev pub invariant-loop-value : goal.invariant-loop-value
invariant-loop-value l = l.made.items ≡ take l.value-index l.all
