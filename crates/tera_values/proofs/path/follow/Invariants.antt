-- What is left of the path leads from here to what all of it leads to.
use Rattle.std.specs.Str.Iter.{split_steps}
use Rattle.std.specs.Str.Pattern.{FindsChar}
use Rattle.std.proofs.Common.{◌≡◌}
use Rattle.tera_meaning.specs.Path.{elements_of, followed}
use Rattle.tera_values.proofs.PathLemmas.{LeadsOn}
use Rattle.tera_values.proofs.path.follow.Given as goal

abbrev pub invariant-loop-element : goal.invariant-loop-element
invariant-loop-element l =
    LeadsOn (split_steps FindsChar (λ a b. b ≡ a)) (followed l.value (elements_of l.to)) l.element-iterator l.here
