use Rattle.std.proofs.Common.{drop}
use Rattle.tera_script.proofs.SavedChecks.{HaveLinesUpTo}
use Rattle.tera_script.proofs.script.check.Given as goal

-- the entries before those that are left have lines
abbrev pub invariant-loop-name : goal.invariant-loop-name
invariant-loop-name g l = HaveLinesUpTo l.fn.entries (drop l.name-index l.entries)
