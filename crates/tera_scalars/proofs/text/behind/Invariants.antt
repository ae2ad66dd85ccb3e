-- What is left are the characters behind those of the turns.
use Rattle.std.proofs.Common.{◌≡◌, drop}
use Rattle.std.specs.Str.Iter.{chars_rest}
use Rattle.tera_scalars.specs.inner.Ends.{chars_from}
use Rattle.tera_scalars.proofs.text.behind.Given as goal

abbrev pub invariant-loop-turn : goal.invariant-loop-turn
invariant-loop-turn l = chars_from l.fn.backwards (chars_rest l.rest) ≡ drop l.turn (chars_from l.fn.backwards l.fn.text)
