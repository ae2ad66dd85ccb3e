use Rattle.std.proofs.Common.{◌≡◌, [], drop}
use Rattle.tera.specs.Pairs.{key_form_order, put_all}
use Rattle.uses.specs.Maps.{flagged}
use Rattle.uses.proofs.maps.flags.Given as goal

-- the pairs so far, with each number that is left, are those with all
abbrev pub invariant-loop-number : goal.invariant-loop-number
invariant-loop-number l = put_all key_form_order l.map (flagged (drop l.number-index l.numbers))
    ≡ put_all key_form_order [] (flagged l.fn.numbers)
