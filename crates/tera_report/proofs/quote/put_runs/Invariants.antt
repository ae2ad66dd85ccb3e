-- What stands for the rest, behind what was put, stands for the text; the rest gets shorter.
use Rattle.std.proofs.Common.{length}
use denote.Text.{Utf8}
use denote.Shadow.{shadow}
use Rattle.tera_report.specs.Quoted.{Escapes}
use Rattle.tera_report.proofs.PutLaws.{Leads}
use Rattle.tera_report.proofs.quote.put_runs.Given as goal

abbrev pub invariant-runs : goal.invariant-runs
invariant-runs g l = shadow (Utf8 l.rest) × Leads g.S.Sink.takes (Escapes l.fn.text) (Escapes l.rest) l.fn.out l.out

abbrev pub decreases-runs : goal.decreases-runs
decreases-runs g l = length l.rest
