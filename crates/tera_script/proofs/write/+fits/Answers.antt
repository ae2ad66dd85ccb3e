use Rattle.std.proofs.Common.{rules, refl, ◌≡◌, ◌+◌, ◌∷◌, [], sym, ap, ◌∙◌, arith, drop, nat_le}
use Rattle.std.proofs.lemmas.List.{drop_more, drop_all}
use Rattle.tera_meaning.specs.Form.{Form}
use Rattle.tera_meaning.specs.Tree.{depth, items, members}
use Rattle.tera_values.proofs.PartsLaws.{depth_at, array_of_items, map_of_members}
use Rattle.tera_script.proofs.WrittenParts.{one_less}
use Rattle.tera_script.proofs.write.+fits.Goals as goal

pub fits-items_fit-requires : goal.fits-items_fit-requires
fits-items_fit-requires t c =
    let deep = ap depth (array_of_items c.args.value.now c.in-Some.items.now c.in-Some.ensures) in
    (omega (arith, deep), tt)

pub fits-returns-then-levels-gt0 : goal.fits-returns-then-levels-gt0
fits-returns-then-levels-gt0 t c =
    let deep = ap depth (array_of_items c.args.value.now c.in-Some.items.now c.in-Some.ensures) in
    c.items_fit.ensures ∙ one_less _ c.args.levels c.if-levels-gt0.true ∙ ap (λ d. nat_le d c.args.levels) deep

pub fits-pairs_fit-requires : goal.fits-pairs_fit-requires
fits-pairs_fit-requires t c =
    let deep = ap depth (map_of_members c.args.value.now c.in-Some-as_map.pairs.now c.in-Some-as_map.ensures) in
    (omega (arith, deep), tt)

pub fits-returns-then-levels-gt0-2 : goal.fits-returns-then-levels-gt0-2
fits-returns-then-levels-gt0-2 t c =
    let deep = ap depth (map_of_members c.args.value.now c.in-Some-as_map.pairs.now c.in-Some-as_map.ensures) in
    c.pairs_fit.ensures ∙ one_less _ c.args.levels c.if-levels-gt0-2.true ∙ ap (λ d. nat_le d c.args.levels) deep

pub items_fit-fits-requires : goal.items_fit-fits-requires
items_fit-fits-requires t c =
    let less_deep = depth_at c.args.all.now c.loop-item.item-index c.item-item.result c.loop-item-test.true c.item-item.is in
    (omega (arith, less_deep), tt)
