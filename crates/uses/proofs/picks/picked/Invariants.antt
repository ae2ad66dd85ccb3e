use Rattle.std.proofs.Common.{◌≡◌, [], drop, map}
use Rattle.tera.specs.Pairs.{key_form_order, put_all}
use Rattle.uses.specs.Picks.{named}
use Rattle.uses.proofs.picks.picked.Given as goal

-- the pairs so far, with that of each name that is left, are those of all names
abbrev pub invariant-loop-name : goal.invariant-loop-name
invariant-loop-name l = put_all key_form_order l.picked (named l.pairs (map (λ name. name.now) (drop l.name-index l.names)))
    ≡ put_all key_form_order [] (named l.pairs (map (λ name. name.now) l.fn.names))
