use Rattle.std.proofs.Common.{◌≡◌}
use Rattle.tera_meaning.specs.Pairs.{key_form_order, goes_on}
use Rattle.tera_values.specs.Key.{key_form}
use Rattle.tera_values.proofs.map_difference.goes_on.Given as goal

-- no key so far is above
abbrev pub invariant-loop-held : goal.invariant-loop-held
invariant-loop-held l = goes_on key_form_order l.held-iterator (key_form l.fn.key) ≡ goes_on key_form_order l.fn.map (key_form l.fn.key)
