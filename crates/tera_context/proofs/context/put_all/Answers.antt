use Rattle.std.proofs.Common.{◌∙◌, ◌≤◌, List, String, Global, ap, sym, subst}
use Rattle.std.proofs.lemmas.Bool.{false≢true}
use Rattle.tera_meaning.specs.Form.{Form}
use Rattle.tera_meaning.specs.State.{extended}
use Rattle.indexmap.specs.IndexMap.{spare}
use Rattle.tera_context.specs.Context.{new_names, state_of}
use Rattle.tera_context.proofs.Extends.{AreApart, left_apart, nothing_taken, taken_on}
use Rattle.tera_context.proofs.Rooms.{room_first, room_left}
use Rattle.tera_context.proofs.context.put_all.Goals as goal

pub loop-name-preserved : goal.loop-name-preserved
loop-name-preserved c =
    let next : String Global × Form = (c.in-Some.name, c.in-Some.value) in
    let left : List (String Global × Form) = c.next.new.self in
    let old = state_of c.loop-name.values.entries in
    let apart = subst AreApart c.in-Some.ensures.steps c.loop-name.invariant.apart in
    record {
      so_far = ap (λ s. extended s (state_of left)) c.in_ok-put.ensures.ok
          ∙ sym (taken_on old next left apart)
          ∙ ap (λ es. extended old (state_of es)) (sym c.in-Some.ensures.steps)
          ∙ c.loop-name.invariant.so_far;
      apart = left_apart next left apart;
      room = λ all. subst (λ s. new_names s left ≤ spare c.put.new.values) (sym c.in_ok-put.ensures.ok)
          (room_left old c.in-Some.name c.in-Some.value left (spare c.loop-name.values) (spare c.put.new.values) apart
          (subst (λ ps. new_names old ps ≤ spare c.loop-name.values) c.in-Some.ensures.steps (c.loop-name.invariant.room all))
          c.in_ok-put.ensures.room);
    }

pub returns-in_err-put-clause-succeeds : goal.returns-in_err-put-clause-succeeds
returns-in_err-put-clause-succeeds c all =
    let old = state_of c.loop-name.values.entries in
    absurd (false≢true (c.in_err-put.ensures.succeeds
    (room_first old c.in-Some.name c.in-Some.value c.next.new.self (spare c.loop-name.values) c.in_err-put.ensures.absent
    (subst (λ ps. new_names old ps ≤ spare c.loop-name.values) c.in-Some.ensures.steps (c.loop-name.invariant.room all)))))

pub returns-clause-ok : goal.returns-clause-ok
returns-clause-ok c =
    let held = state_of c.loop-name.values.entries in
    sym (nothing_taken held)
    ∙ ap (λ es. extended held (state_of es)) (sym c.in-None.ensures.steps.0)
    ∙ c.loop-name.invariant.so_far
