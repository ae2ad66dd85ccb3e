-- By what the value is, and whether it is there.
use Rattle.std.proofs.Common.{◌≡◌, Ok, rules, subst, sym}
use Rattle.tera.proofs.InTurnLaws.{shown_alone}
use Rattle.tera.specs.Errors.{Refuses}
use Rattle.tera_page.proofs.Failing.{fails_at}
use Rattle.tera_page.proofs.Parts.{nothing_fails, shows_value, value_fails}
use Rattle.tera_page.proofs.page.put_written.Goals as goal
use Rattle.tera_page.specs.Failures.{Fails}
use Rattle.tera_page.specs.Rendering.{IsPageOf, ShowsPiece, pieces, there, value}
use Rattle.tera_page.specs.Template.{show}
use Rattle.tera_page.specs.View.{form_of, showing_of, state_of, written_of}

pub returns-in_err-held-clause-err : goal.returns-in_err-held-clause-err
returns-in_err-held-clause-err c =
    let failed = c.in_err-held.field-0.0 in
    let w = written_of c.args.written.now in
    let how = showing_of c.args.how in
    let fails : Fails (pieces (show w how) (state_of c.args.scope.now)) failed =
    value_fails w how (state_of c.args.scope.now) failed c.in_err-held.ensures.err in
    search rules

pub returns-then-is_undefined-clause-err : goal.returns-then-is_undefined-clause-err
returns-then-is_undefined-clause-err c =
    let w = written_of c.args.written.now in
    let v = form_of c.in_ok-held.held in
    let refuses : Refuses (there w.text v) c.nothing_at.result = search rules in
    nothing_fails w (showing_of c.args.how) (state_of c.args.scope.now) v c.failed_at.result c.in_ok-held.ensures.ok
    (fails_at w (there w.text v) c.nothing_at.result c.failed_at.result c.failed_at.ensures.error c.failed_at.ensures.from refuses)

pub returns-clause-ok : goal.returns-clause-ok
returns-clause-ok c =
    let w = written_of c.args.written.now in
    let how = showing_of c.args.how in
    let v = form_of c.in_ok-held.held in
    let is : there w.text v ≡ Ok v = search rules in
    let (shown, shows, grows) = c.in_ok-put_value.ensures.ok in
    let shows_it = subst (λ x. ShowsPiece (value how x) shown) c.value-value.ensures shows in (
      shown,
      subst (λ p. IsPageOf p shown) (sym (shows_value w how (state_of c.args.scope.now) v c.in_ok-held.ensures.ok is))
          (shown_alone ShowsPiece (value how v) shown shows_it),
      grows,
    )
