use Rattle.std.proofs.Common.{◌≡◌, Ok, take}
use Rattle.tera.specs.Stepped.{stepped}
use Rattle.uses.specs.Checks.{counted}
use Rattle.uses.proofs.checks.require_numbers.Given as goal

-- the values so far are numbers
abbrev pub invariant-loop-place : goal.invariant-loop-place
invariant-loop-place l = stepped counted 0 (take l.place l.values) ≡ Ok l.place
