use Rattle.std.proofs.Common.{◌≡◌, ◌+◌, ◌<◌, ◌^◌, length}
use Rattle.tera_context.specs.Context.{new_names, state_of}
use Rattle.tera_context.proofs.context.count_new.Given as goal

-- with those that are left it is what is wanted
abbrev pub invariant-loop-name : goal.invariant-loop-name
invariant-loop-name l = record {
  so_far : l.count + new_names (state_of l.values.entries) l.name-iterator
      ≡ new_names (state_of l.values.entries) l.fn.taken.entries;
  fits : l.count + length l.name-iterator < 2 ^ 63;
}
