-- No byte before `at`, or before `end`, is special.
use Rattle.std.proofs.Common.{◌-◌, ◌≤◌, length}
use Rattle.tera_report.specs.inner.Pieces.{IsPlain}
use Rattle.tera_report.proofs.pieces.ordinary_len.Given as goal

abbrev pub invariant-loop-at : goal.invariant-loop-at
invariant-loop-at l = (l.at ≤ length l.bytes) × IsPlain l.bytes 0 l.at

abbrev pub decreases-loop-at : goal.decreases-loop-at
decreases-loop-at l = length l.bytes - l.at

abbrev pub invariant-loop-end : goal.invariant-loop-end
invariant-loop-end l = IsPlain l.bytes 0 l.end
