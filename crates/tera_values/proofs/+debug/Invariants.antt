use Rattle.std.proofs.Common.{◌≤◌}
use Rattle.tera_meaning.specs.Tree.{members, members_depth}
use Rattle.tera_values.proofs.+debug.Given as goal

-- those that are left are no deeper
abbrev pub invariant-map::MapDebug::fmt-loop-key : goal.invariant-map::MapDebug::fmt-loop-key
invariant-map::MapDebug::fmt-loop-key g l = members_depth (members l.key-iterator) ≤ members_depth (members l.self)
