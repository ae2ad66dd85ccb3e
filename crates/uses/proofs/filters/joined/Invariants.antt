use Rattle.std.proofs.Common.{◌≡◌, map, take}
use Rattle.std.specs.String.{string_bytes}
use Rattle.uses.specs.Filters.{joined, shown}
use Rattle.uses.proofs.filters.joined.Given as goal

-- those so far are joined
abbrev pub invariant-loop-place : goal.invariant-loop-place
invariant-loop-place g l = string_bytes l.joined ≡ joined (shown g.S.Autoescape.escapes g.S.Autoescape.escaped l.state l.between)
    (map (shown g.S.Autoescape.escapes g.S.Autoescape.escaped l.state) (take l.place l.parts))
