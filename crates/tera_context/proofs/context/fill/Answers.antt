use Rattle.std.proofs.Common.{◌∙◌, List, String, Global, ap, sym, subst}
use Rattle.tera_meaning.specs.Form.{Form}
use Rattle.tera_meaning.specs.State.{extended}
use Rattle.tera_context.specs.Context.{state_of}
use Rattle.tera_context.proofs.Extends.{AreApart, left_apart, left_over, nothing_taken, taken_by_nothing, taken_on}
use Rattle.tera_context.proofs.context.fill.Goals as goal

pub loop-name-init : goal.loop-name-init
loop-name-init c =
    let gives = c.into_iter-name-iterator.ensures.into_iter_gives in
    record {
      so_far = (λ i. extended (c.requires i) (state_of (gives.0 i)))
          ∙ taken_by_nothing (state_of c.args.from.now.entries);
      apart = subst AreApart (sym gives.0) gives.4;
    }

pub loop-name-preserved : goal.loop-name-preserved
loop-name-preserved c =
    let next : String Global × Form = (c.in-Some.name.now, c.in-Some.value.now) in
    let left : List (String Global × Form) = c.next.new.self in
    let old = state_of c.loop-name.values.entries in
    let apart = subst AreApart c.in-Some.ensures.steps c.loop-name.invariant.apart in
    record {
      so_far = ap (λ s. extended s (state_of left)) c.in_ok-put_copy.ensures
          ∙ sym (taken_on old next left apart)
          ∙ ap (λ es. extended old (state_of es)) (sym c.in-Some.ensures.steps)
          ∙ c.loop-name.invariant.so_far;
      apart = left_apart next left apart;
    }

pub returns-in_err-put_copy-clause-nothing : goal.returns-in_err-put_copy-clause-nothing
returns-in_err-put_copy-clause-nothing c none =
    let next : String Global × Form = (c.in-Some.name.now, c.in-Some.value.now) in
    absurd (left_over (state_of c.loop-name.values.entries) _ next c.next.new.self _ c.in-Some.ensures.steps c.loop-name.invariant.so_far none)

pub returns-clause-ok : goal.returns-clause-ok
returns-clause-ok c =
    let held = state_of c.loop-name.values.entries in
    sym (nothing_taken held)
    ∙ ap (λ es. extended held (state_of es)) (sym c.in-None.ensures.steps.0)
    ∙ c.loop-name.invariant.so_far
