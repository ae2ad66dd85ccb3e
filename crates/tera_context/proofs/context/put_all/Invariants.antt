use Rattle.std.proofs.Common.{◌≡◌, ◌≤◌}
use Rattle.indexmap.specs.IndexMap.{spare}
use Rattle.tera_meaning.specs.State.{extended}
use Rattle.tera_context.specs.Context.{new_names, state_of}
use Rattle.tera_context.proofs.Extends.{AreApart}
use Rattle.tera_context.proofs.context.put_all.Given as goal

-- with the pairs that are left it is what is wanted, and there is room for the new names among them,
-- if there was for all new names
abbrev pub invariant-loop-name : goal.invariant-loop-name
invariant-loop-name l = record {
  so_far : extended (state_of l.values.entries) (state_of l.name-iterator)
      ≡ extended (state_of l.fn.values.entries) (state_of l.fn.taken.entries);
  apart : AreApart l.name-iterator;
  room : new_names (state_of l.fn.values.entries) l.fn.taken.entries ≤ spare l.fn.values
      → new_names (state_of l.values.entries) l.name-iterator ≤ spare l.values;
}
