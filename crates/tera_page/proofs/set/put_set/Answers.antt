-- By the value that is set.
use Rattle.std.proofs.Common.{◌≡◌, ◌∙◌, Ok, ap, rules, subst, sym}
use Rattle.std.specs.FinMap.{empty}
use Rattle.std.specs.Option.{unwrap_or}
use Rattle.tera.proofs.ExtendLaws.{extended_insert}
use Rattle.tera.specs.State.{extended}
use Rattle.tera_page.proofs.Parts.{set_fails, shows_set}
use Rattle.tera_page.proofs.set.put_set.Goals as goal
use Rattle.tera_page.specs.Failures.{Fails}
use Rattle.tera_page.specs.Rendering.{pieces, placed}
use Rattle.tera_page.specs.Template.{assign}
use Rattle.tera_page.specs.Values.{value_of}
use Rattle.tera_page.specs.View.{state_of, state_with, written_of}

pub returns-in_err-value_at-clause-err : goal.returns-in_err-value_at-clause-err
returns-in_err-value_at-clause-err c =
    let failed = c.in_err-value_at.field-0.0 in
    let w = written_of c.args.written.now in
    let state = state_with c.args.scope.now c.args.names.now in
    let fails : Fails (pieces (assign c.args.name.now w) state) failed =
    set_fails c.args.name.now w state failed
    (subst (λ s. Fails (placed w (value_of w.expression s)) failed) c.inside-inner.ensures c.in_err-value_at.ensures.err) in
    search rules

pub returns-clause-ok : goal.returns-clause-ok
returns-clause-ok c =
    let v = c.in_ok-value.value in
    let w = written_of c.args.written.now in
    let given = subst (λ s. value_of w.expression s ≡ Ok v) c.inside-inner.ensures
    (c.in_ok-value_at.ensures.ok ∙ ap (λ x. Ok x) (sym c.in_ok-value.ensures.ok)) in
    (shows_set c.args.name.now w (state_with c.args.scope.now c.args.names.now) v given).0

pub returns-clause-after : goal.returns-clause-after
returns-clause-after c =
    let v = c.in_ok-value.value in
    let w = written_of c.args.written.now in
    let scope = c.args.scope.now in
    let given = subst (λ s. value_of w.expression s ≡ Ok v) c.inside-inner.ensures
    (c.in_ok-value_at.ensures.ok ∙ ap (λ x. Ok x) (sym c.in_ok-value.ensures.ok)) in
    let leads = (shows_set c.args.name.now w (state_with scope c.args.names.now) v given).1 in
    ap (extended (state_of scope)) c.in_ok-set_name.ensures.ok
    ∙ extended_insert (state_of scope) (unwrap_or c.args.names.now empty) c.args.name.now v ∙ sym leads
