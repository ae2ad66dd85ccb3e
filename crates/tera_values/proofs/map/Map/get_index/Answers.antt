use Rattle.std.proofs.Common.{◌<◌, ◌≤◌, ap, ◌∙◌, arith, length}
use Rattle.std.specs.Prelude.{slice_get}
use Rattle.tera_values.proofs.ColumnLemmas.{pair_at, no_pair_at}
use Rattle.tera_values.proofs.map.Map.get_index.Goals as goal

pub returns-then-index-keys : goal.returns-then-index-keys
returns-then-index-keys c =
    let ks = c.lists.result.0.now in
    let vs = c.lists.result.1.now in
    let even = c.lists.ensures.columns.even in
    let below : c.args.index < length ks = omega (arith, c.if-index-keys.true) in
    pair_at ks vs c.args.index c.index-keys-index.result c.index-values-index.result below (omega (arith, below, even))
    c.index-keys-index.is c.index-values-index.is
    ∙ ap (λ ps. slice_get ps c.args.index) c.lists.ensures.pairs

pub returns-else-index-keys : goal.returns-else-index-keys
returns-else-index-keys c =
    let ks = c.lists.result.0.now in
    let past : length ks ≤ c.args.index = omega (arith, c.if-index-keys.false) in
    no_pair_at ks c.lists.result.1.now c.args.index past
    ∙ ap (λ ps. slice_get ps c.args.index) c.lists.ensures.pairs
