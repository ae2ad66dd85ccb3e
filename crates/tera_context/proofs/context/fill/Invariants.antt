use Rattle.std.proofs.Common.{◌≡◌}
use Rattle.tera_meaning.specs.State.{extended}
use Rattle.tera_context.specs.Context.{state_of}
use Rattle.tera_context.proofs.Extends.{AreApart}
use Rattle.tera_context.proofs.context.fill.Given as goal

-- with the pairs that are left the map has all
abbrev pub invariant-loop-name : goal.invariant-loop-name
invariant-loop-name l = record {
  so_far : extended (state_of l.values.entries) (state_of l.name-iterator) ≡ state_of l.from.entries;
  apart : AreApart l.name-iterator;
}
