-- The characters before the place are turned.
use Rattle.std.proofs.Common.{◌-◌, length}
use Rattle.tera_scalars.proofs.TurnLemmas.{IsTurnedTo}
use Rattle.tera_scalars.proofs.text.turn_each.Given as goal

abbrev pub invariant-characters : goal.invariant-characters
invariant-characters l = IsTurnedTo l.fn.bytes l.bytes l.at

abbrev pub decreases-characters : goal.decreases-characters
decreases-characters l = l.end - l.at

abbrev pub invariant-pieces : goal.invariant-pieces
invariant-pieces l = IsTurnedTo l.fn.bytes l.bytes l.at

abbrev pub decreases-pieces : goal.decreases-pieces
decreases-pieces l = length l.initial.bytes - l.at
