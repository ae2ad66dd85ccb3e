use Rattle.std.proofs.Common.{◌≡◌, drop}
use Rattle.std.specs.Str.{IsUtf8, chars}
use Rattle.std.specs.Str.Iter.{chars_rest}
use Rattle.tera_filters.proofs.parts.behind.Given as goal

-- what is left are the characters behind those of the turns
abbrev pub invariant-loop-turn : goal.invariant-loop-turn
invariant-loop-turn l = IsUtf8 (chars_rest l.rest) × (chars (chars_rest l.rest) ≡ drop l.turn (chars l.text))
