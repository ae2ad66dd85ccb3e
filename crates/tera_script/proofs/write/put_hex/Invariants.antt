-- What was put is the digits of the bytes before those that are left.
use Rattle.std.proofs.Common.{drop}
use Rattle.tera_report.proofs.PutLaws.{SoFar}
use Rattle.tera_script.specs.Written.{bytes_literal}
use Rattle.tera_script.proofs.write.put_hex.Given as goal

abbrev pub invariant-loop-byte : goal.invariant-loop-byte
invariant-loop-byte g l = SoFar g.S.Sink.takes l.fn.out (bytes_literal l.fn.held) (bytes_literal (drop l.byte-index l.held)) l.out
