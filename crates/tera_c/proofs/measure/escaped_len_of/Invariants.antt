-- What stands before `at`, or before `end`, is counted.
use Rattle.std.proofs.Common.{◌≡◌, ◌-◌, ◌≤◌, length, take}
use Rattle.tera_report.specs.Escaping.{escaped}
use Rattle.tera_c.proofs.measure.escaped_len_of.Given as goal

abbrev pub invariant-loop-at : goal.invariant-loop-at
invariant-loop-at l = (l.at ≤ length l.bytes) × (l.len ≡ length (escaped (take l.at l.bytes)))

abbrev pub decreases-loop-at : goal.decreases-loop-at
decreases-loop-at l = length l.bytes - l.at

abbrev pub invariant-loop-end : goal.invariant-loop-end
invariant-loop-end l = l.len ≡ length (escaped (take l.end l.bytes))
