use Rattle.std.proofs.Common.{ap, sym, ◌∙◌, ◌++◌}
use Rattle.tera_conversions.proofs.GivenLaws.{moved_on}
use Rattle.tera_conversions.proofs.SortedLemmas.{forms_on, forms_in_order}
use Rattle.tera_meaning.specs.Tree.{object, members}
use Rattle.tera_conversions.proofs.maps.in_order.Goals as goal

pub loop-key-preserved : goal.loop-key-preserved
loop-key-preserved c = record {
  so_far = forms_on c.loop-key.yielded c.loop-key.made c.insert.new.self (c.in-Some.key, c.in-Some.value) c.loop-key.invariant.so_far
      c.in_ok-insert.ensures.ok;
  whole = moved_on _ _ _ _ (ap (λ rest. c.loop-key.yielded ++ rest) (sym c.in-Some.ensures.steps) ∙ c.loop-key.invariant.whole);
}

pub returns-clause-ok : goal.returns-clause-ok
returns-clause-ok c =
    let stands = forms_in_order c.args.sorted.entries c.loop-key.yielded c.loop-key.key-iterator c.loop-key.made
    c.into_iter-key-iterator.ensures.into_iter_gives.5 c.loop-key.invariant.whole c.in-None.ensures.steps.0 c.loop-key.invariant.so_far in
    c.of_map.ensures ∙ ap (λ ps. object (members ps)) stands
