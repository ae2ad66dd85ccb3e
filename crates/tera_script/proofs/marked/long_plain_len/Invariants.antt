-- No byte before `at` is marked.
use Rattle.std.proofs.Common.{◌-◌, ◌≤◌, length}
use Rattle.tera_script.specs.inner.Marked.{IsPlainUpTo}
use Rattle.tera_script.proofs.marked.long_plain_len.Given as goal

abbrev pub invariant-loop-at : goal.invariant-loop-at
invariant-loop-at l = (l.at ≤ length l.bytes) × IsPlainUpTo l.most l.bytes l.at

abbrev pub decreases-loop-at : goal.decreases-loop-at
decreases-loop-at l = length l.bytes - l.at
