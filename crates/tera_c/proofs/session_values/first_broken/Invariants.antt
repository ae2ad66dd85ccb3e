-- The first among those that are left is the first of all.
use Rattle.std.proofs.Common.{◌≡◌, drop, map}
use Rattle.std.specs.List.{find}
use Rattle.tera_c.specs.Values.{is_broken}
use Rattle.tera_c.proofs.session_values.first_broken.Given as goal

abbrev pub invariant-loop-name : goal.invariant-loop-name
invariant-loop-name l = find is_broken (map (λ e. e.0.now) (drop l.name-index l.entries)) ≡ find is_broken (map (λ e. e.0.now) l.fn.entries)
