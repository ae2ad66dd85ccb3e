use Rattle.std.proofs.Common.{◌≡◌}
use Rattle.tera.specs.Pairs.{key_form_order, put_all}
use Rattle.uses.proofs.merges.merged.Given as goal

-- the pairs so far, with each one that is left put over them, are those with all
abbrev pub invariant-loop-key : goal.invariant-loop-key
invariant-loop-key l = put_all key_form_order l.merged l.key-iterator ≡ put_all key_form_order l.fn.first l.fn.second
