use Rattle.std.proofs.Common.{◌≡◌, length}
use Rattle.tera_script.specs.Readers.{past, is_of}
use Rattle.tera_script.proofs.word.past.Given as goal

abbrev pub invariant-loop-rest : goal.invariant-loop-rest
invariant-loop-rest l = past (is_of l.class) l.rest ≡ past (is_of l.class) l.bytes

abbrev pub decreases-loop-rest : goal.decreases-loop-rest
decreases-loop-rest l = length l.rest
