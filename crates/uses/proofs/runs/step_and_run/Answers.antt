use Rattle.std.specs.Prelude.{Result, Ok, Err, OnErr}
use Rattle.std.proofs.Common.{subst, sym}
use Rattle.tera.proofs.ShownLaws.{shown_outcome}
use Rattle.tera.specs.Call.{command_of}
use Rattle.tera.specs.Step.{IsStep}
use Rattle.uses.proofs.runs.step_and_run.Goals as goal

-- what holds at all holds of a refusal
on_err : {X E : Type 0} (r : Result X E) (P : Type 0) → P → OnErr r P
on_err (Ok x) P holds = tt
on_err (Err e) P holds = holds

-- the step leads to the state from which the run starts
pub returns-clause-run : goal.returns-clause-run
returns-clause-run c =
    let one = shown_outcome c.step-answer.result
    (λ outcome. IsStep c.args.context.now (command_of c.args.first) outcome c.step-answer.new.context) c.step-answer.ensures.outcome in
    let others = c.in_ok-answers.ensures.run in
    (one.0, others.0, one.1, others.1, (c.step-answer.new.context, one.2, others.2))

-- and where the run is refused, it left that state
pub returns-in_err-answers-clause-done : goal.returns-in_err-answers-clause-done
returns-in_err-answers-clause-done c =
    let one = shown_outcome c.step-answer.result
    (λ outcome. IsStep c.args.context.now (command_of c.args.first) outcome c.step-answer.new.context) c.step-answer.ensures.outcome in
    on_err c.from_residual.result _
    (one.0, subst (λ state. IsStep c.args.context.now (command_of c.args.first) one.0 state) (sym c.in_err-answers.ensures.unchanged) one.2)
