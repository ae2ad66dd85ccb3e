-- What was put and what is written of the rest are the whole; the rest gets shorter.
use Rattle.std.proofs.Common.{length}
use denote.Text.{Utf8}
use denote.Shadow.{shadow}
use Rattle.tera_report.proofs.PutLaws.{SoFar}
use Rattle.tera_script.specs.Written.{inside}
use Rattle.tera_script.proofs.write_text.put_runs.Given as goal

abbrev pub invariant-runs : goal.invariant-runs
invariant-runs g l = shadow (Utf8 l.rest) × SoFar g.S.Sink.takes l.fn.out (inside l.fn.ascii l.fn.text) (inside l.fn.ascii l.rest) l.out

abbrev pub decreases-runs : goal.decreases-runs
decreases-runs g l = length l.rest
