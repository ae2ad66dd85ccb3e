use Rattle.std.proofs.Common.{length}
use Rattle.tera_script.proofs.Passed.{IsDecoded}
use Rattle.tera_script.proofs.why_literal.pass_text.Given as goal

abbrev pub invariant-loop-byte : goal.invariant-loop-byte
invariant-loop-byte l = IsDecoded l.bytes l.rest

abbrev pub decreases-loop-byte : goal.decreases-loop-byte
decreases-loop-byte l = length l.rest
