use Rattle.std.proofs.lemmas.List.Elements.{recursion_from_All}
use Rattle.tera_meaning.proofs.DifferenceLaws.{least_walked, all_walked}
use Rattle.tera_meaning.proofs.pairs.walks_find_the_least_difference.Goals as goal

pub returns-clause-least : goal.returns-clause-least
returns-clause-least g c es fs k differs h m =
    least_walked g.K.Ord.cmp g.met.K.Ord.total g.V.Ord.cmp es fs k differs (recursion_from_All _ es h) (recursion_from_All _ fs m)

pub returns-clause-none : goal.returns-clause-none
returns-clause-none g c es fs h m =
    all_walked g.K.Ord.cmp g.met.K.Ord.total g.V.Ord.cmp es fs (recursion_from_All _ es h) (recursion_from_All _ fs m)
