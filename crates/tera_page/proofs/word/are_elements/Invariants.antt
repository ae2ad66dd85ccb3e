use Rattle.std.proofs.Common.{◌≡◌, false, drop}
use Rattle.tera_page.proofs.word.are_elements.Given as goal
use Rattle.tera_page.specs.Words.{are_elements}

-- what is left decides
abbrev pub invariant-loop-byte : goal.invariant-loop-byte
invariant-loop-byte l = are_elements l.begun (drop l.byte-index l.bytes) ≡ are_elements false l.bytes
