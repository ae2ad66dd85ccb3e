use Rattle.tera_script.proofs.Sources.{IsSoFar}
use Rattle.tera_script.proofs.source.source_of.Given as goal

abbrev pub invariant-loop-key : goal.invariant-loop-key
invariant-loop-key l = IsSoFar l.fn.value l.source l.key-iterator
