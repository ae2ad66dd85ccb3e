-- What was put, with the text of the bytes that are left, is the text of all the bytes.
use Rattle.std.specs.Str.Lossy.{utf8_lossy}
use Rattle.bstr.specs.Chunks.{chunks_rest}
use Rattle.tera_report.proofs.PutLaws.{SoFar}
use Rattle.tera_scalars.proofs.lossy.put_lossy.Given as goal

abbrev pub invariant-chunks : goal.invariant-chunks
invariant-chunks g l = SoFar g.S.Sink.takes l.fn.out (utf8_lossy l.fn.bytes) (utf8_lossy (chunks_rest l.chunks)) l.out
