use Rattle.std.proofs.Common.{◌≢◌, Err, pos, sym, ap, ◌∙◌}
use Rattle.std.proofs.lemmas.Result.{IfOk-at_ok}
use Rattle.std.proofs.lemmas.Int.{to_z-of_z}
use Rattle.std.specs.Int.{w128, cast_signed, cast_unsigned}
use Rattle.tera_report.specs.Refusal.{step_of_zero}
use Rattle.tera_values.proofs.SliceLemmas.{slice_found, slice_refused, slice_is_cut, zero_refused, zero_gives_none, not_zero}
use Rattle.tera_values.proofs.value.Value.slice.Goals as goal

pub returns-then-step-eq0-clause-err : goal.returns-then-step-eq0-clause-err
returns-then-step-eq0-clause-err c =
    let same = to_z-of_z w128 c.unwrap_or-step.result (record { sfits = c.unwrap_or-step.type_inv }) in
    let zero = sym same ∙ ap (cast_signed w128) c.if-step-eq0.true in
    (Err step_of_zero, zero_refused c.args.self.now c.args.start c.args.end c.args.step (sym c.unwrap_or-step.ensures ∙ zero), c.step_of_zero.ensures)

pub returns-clause-ok : goal.returns-clause-ok
returns-clause-ok c =
    let same = to_z-of_z w128 c.unwrap_or-step.result (record { sfits = c.unwrap_or-step.type_inv }) in
    slice_found c.args.start c.args.end _ c.unwrap_or-step.result same c.args.step c.unwrap_or-step.ensures
    (λ zero. c.if-step-eq0.false (ap (cast_unsigned w128) zero)) c.args.self.now c.cut.result c.cut.ensures.ok

pub returns-clause-err : goal.returns-clause-err
returns-clause-err c =
    let same = to_z-of_z w128 c.unwrap_or-step.result (record { sfits = c.unwrap_or-step.type_inv }) in
    slice_refused c.args.start c.args.end _ c.unwrap_or-step.result same c.args.step c.unwrap_or-step.ensures
    (λ zero. c.if-step-eq0.false (ap (cast_unsigned w128) zero)) c.args.self.now c.cut.result c.cut.ensures.err

pub returns-then-step-eq0-clause-empty : goal.returns-then-step-eq0-clause-empty
returns-then-step-eq0-clause-empty c made is empty =
    let same = to_z-of_z w128 c.unwrap_or-step.result (record { sfits = c.unwrap_or-step.type_inv }) in
    let zero = sym same ∙ ap (cast_signed w128) c.if-step-eq0.true in
    absurd (zero_gives_none c.args.self.now _ c.args.start c.args.end c.args.step (sym c.unwrap_or-step.ensures ∙ zero) is)

pub returns-clause-empty : goal.returns-clause-empty
returns-clause-empty c made is empty =
    let same = to_z-of_z w128 c.unwrap_or-step.result (record { sfits = c.unwrap_or-step.type_inv }) in
    let some : c.unwrap_or-step.result ≢ pos 0 = λ zero. c.if-step-eq0.false (ap (cast_unsigned w128) zero) in
    let cuts = slice_is_cut c.args.start c.args.end _ c.unwrap_or-step.result same c.args.step c.unwrap_or-step.ensures some c.args.self.now _ is in
    IfOk-at_ok _ cuts c.cut.ensures.empty empty (not_zero c.args.start c.args.end _ c.unwrap_or-step.result same some)
