-- What is stated of the answer is replied.
use Rattle.std.proofs.Common.{ℕ, List, Result}
use Rattle.tera_meaning.specs.{Outcome.Outcome, Outcome.is_want, Request.Command, State.State, Step.IsStep}
use Rattle.tera_context.specs.{Request.command_form, Steps.ShowsOneOf, declared.call.Answer.Answer}
use Rattle.tera_context.proofs.ShownLaws.{shown_outcome}
use Rattle.tera_report.specs.declared.errors.Error.{Error}
use Rattle.tera_replies.specs.{Reply.IsReplyLine, inner.Endings.AnswersCall, inner.Stated.outcome_stated}
use Rattle.tera_replies.proofs.ReplyLemmas.{answers_so, reply_shown, want_shown}
use Rattle.tera_replies.proofs.feed.answer_and_write.Goals as goal

answers_stated : (old new : State) (command : Command) (answer : Result Answer Error) → ShowsOneOf answer (λ outcome. IsStep old command outcome new)
    → (reply : List ℕ) → IsReplyLine (outcome_stated answer) reply → AnswersCall command old new reply (is_want (outcome_stated answer))
answers_stated old new command answer steps reply (text, is_reply, ended_is) =
    let (outcome, shows, step) = shown_outcome answer (λ (outcome : Outcome). IsStep old command outcome new) steps in
    (outcome, step, (text, reply_shown answer outcome text shows is_reply, ended_is), want_shown answer outcome shows)

pub returns : goal.returns
returns g c =
    let so = answers_stated c.args.context.now c.answer-answer.new.context (command_form c.args.command) c.answer-answer.result
    c.answer-answer.ensures.outcome in
    let a = answers_so c.write_answer-answered.result _ _ _ (AnswersCall (command_form c.args.command) c.args.context.now c.answer-answer.new.context) _ so
    c.write_answer-answered.ensures.ok c.write_answer-answered.ensures.err in
    record { ok = a.ok; err = a.err }
