-- The total is the sum of the numbers so far, with the cap.
use Rattle.std.proofs.Common.{◌≡◌, take}
use Rattle.std.specs.List.{sum}
use Rattle.tera_report.specs.inner.Report.{capped}
use Rattle.tera_report.proofs.report.length.capped_sum.Given as goal

abbrev pub invariant-loop-at : goal.invariant-loop-at
invariant-loop-at l = l.total ≡ capped (sum (take l.at l.numbers))
