-- What was put and what is left are all of the carets.
use Rattle.std.proofs.Common.{replicate}
use Rattle.tera_report.specs.Report.{caret}
use Rattle.tera_report.proofs.PutLaws.{SoFar}
use Rattle.tera_report.proofs.report.text.put_carets.Given as goal

abbrev pub invariant-chunks : goal.invariant-chunks
invariant-chunks g l = SoFar g.S.Sink.takes l.fn.out (replicate l.count caret) (replicate l.left caret) l.out

abbrev pub decreases-chunks : goal.decreases-chunks
decreases-chunks g l = l.left
