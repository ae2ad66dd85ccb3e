use Rattle.std.proofs.Common.{◌≡◌, ℕ, List, [], Some, ap, sym, ◌∙◌, subst}
use Rattle.std.specs.FinMap.{get-empty, insert}
use Rattle.tera_meaning.specs.Pairs.{HasDistinctKeys, key_form_order}
use Rattle.tera_script.proofs.Sources.{HoldsSoFar, none_named, all_named, one_more}
use Rattle.tera_script.proofs.source.source_of.Goals as goal

pub loop-key-init : goal.loop-key-init
loop-key-init c = record {
  done = [];
  texts = tt;
  so_far = subst (λ state. HoldsSoFar state []) (sym c.with_hasher-source.ensures) (λ name. get-empty _ name);
  whole = c.in-Some.ensures ∙ ap Some (sym c.into_iter-key-iterator.ensures.into_iter_gives.0);
  apart = subst (HasDistinctKeys key_form_order) (sym c.into_iter-key-iterator.ensures.into_iter_gives.0)
      c.into_iter-key-iterator.ensures.into_iter_gives.1;
}

pub returns-in_default-as_str-clause-source : goal.returns-in_default-as_str-clause-source
returns-in_default-as_str-clause-source c = none_named c.loop-key.invariant c.in-Some-2.ensures.steps c.in_default-as_str.ensures

pub loop-key-preserved-in_ok-insert_owned : goal.loop-key-preserved-in_ok-insert_owned
loop-key-preserved-in_ok-insert_owned c =
    one_more c.loop-key.invariant c.in-Some-2.ensures.steps c.in-Some-as_str.ensures
    (subst (λ (t : List ℕ). c.insert_owned.new.self ≡ insert c.loop-key.source t c.in-Some-2.held) c.in_ok-name.ensures.ok
    c.in_ok-insert_owned.ensures.ok)

pub loop-key-preserved : goal.loop-key-preserved
loop-key-preserved c =
    one_more c.loop-key.invariant c.in-Some-2.ensures.steps c.in-Some-as_str.ensures
    (subst (λ (t : List ℕ). c.insert_owned.new.self ≡ insert c.loop-key.source t c.in-Some-2.held) c.in_ok-name.ensures.ok
    c.in_ok-insert_owned.ensures.ok)

pub returns-clause-source : goal.returns-clause-source
returns-clause-source c = all_named c.loop-key.invariant c.in-None.ensures.steps.0
