use Rattle.std.proofs.Common.{◌∙◌, subst}
use Rattle.tera_meaning.specs.Pairs.{HasDistinctKeys, key_form_order}
use Rattle.tera_values.specs.inner.Map.{pairs_held}
use Rattle.tera_values.proofs.ColumnLemmas.{distinct_pairs}
use Rattle.tera_values.proofs.map.MapIntoIterator.into_iter.Goals as goal

pub returns : goal.returns
returns c = record {
  into_iter_gives = (
    (λ i. pairs_held (c.into_own.ensures i) (c.into_iter.ensures.rest i)) ∙ c.into_lists-keys.ensures.pairs,
    subst (HasDistinctKeys key_form_order) c.into_lists-keys.ensures.pairs (distinct_pairs _ _ c.into_lists-keys.ensures.columns.distinct),
  );
}
