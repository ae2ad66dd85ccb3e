use Rattle.std.proofs.Common.{◌≡◌}
use Rattle.std.specs.Option.{option_map}
use Rattle.tera_meaning.specs.Pairs.{key_form_order, value_at}
use Rattle.tera_values.specs.Key.{key_form}
use Rattle.tera_values.specs.inner.MapDifference.{least_met, lacking}
use Rattle.tera_values.proofs.map_difference.least_absent.Given as goal

-- the least so far and what is left give the least of all
abbrev pub invariant-loop-key : goal.invariant-loop-key
invariant-loop-key l =
    let found = option_map (λ d. (key_form d.0.now, d.1)) l.fn.found in
    least_met (λ e. lacking (value_at key_form_order l.fn.left e.0)) (option_map (λ d. (key_form d.0.now, d.1)) l.least) l.key-iterator
    ≡ least_met (λ e. lacking (value_at key_form_order l.fn.left e.0)) found l.fn.right
