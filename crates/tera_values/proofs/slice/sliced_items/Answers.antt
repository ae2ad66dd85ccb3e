use Rattle.std.proofs.Common.{◌<◌, ◌^◌, length, rules}
use Rattle.std.proofs.lemmas.Int.{to_z-of_z}
use Rattle.std.specs.Int.{w128}
use Rattle.tera_values.proofs.SliceLemmas.{sliced_found, none_taken}
use Rattle.tera_values.proofs.slice.sliced_items.Goals as goal

pub returns-clause-ok : goal.returns-clause-ok
returns-clause-ok c =
    let fits : length c.args.all.now < 2 ^ 64 = search rules in
    sliced_found (λ v. v.items) c.strided_items.result c.args.all.now c.args.start c.args.end c.args.step _ _ _ _
    (to_z-of_z w128 c.args.step c.ranges.step) fits c.new.ensures.until_within c.new.ensures.from c.new.ensures.until c.new.ensures.by
    c.strided_items.ensures.ok

pub returns-clause-succeeds : goal.returns-clause-succeeds
returns-clause-succeeds c nonzero none =
    c.strided_items.ensures.succeeds (none_taken c.args.all.now c.args.start c.args.end c.args.step _ _ _
    (to_z-of_z w128 c.args.step c.ranges.step) nonzero c.new.ensures.from_within c.new.ensures.until_within c.new.ensures.from c.new.ensures.until
    none)
