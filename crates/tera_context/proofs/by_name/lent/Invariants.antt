use Rattle.std.proofs.Common.{◌≡◌, ◌++◌}
use Rattle.tera_context.specs.Context.{lent_entries, named}
use Rattle.tera_context.proofs.by_name.lent.Given as goal

-- with the pairs that are left these are all
abbrev pub invariant-loop-name : goal.invariant-loop-name
invariant-loop-name l = lent_entries l.all.items ++ named l.name-iterator ≡ named l.values.entries
