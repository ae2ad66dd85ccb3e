-- What is lent stands for the outcome of a step.
use Rattle.std.proofs.Common.{ℕ, List, false, subst, sym}
use Rattle.std.specs.Prelude.{IsSome}
use Rattle.tera_meaning.specs.{Outcome.Outcome, Request.Command, State.State, Step.IsStep}
use Rattle.tera_context.specs.Lent.{LentForm, StandsFor, lent_form}
use Rattle.tera_context.specs.Request.{command_form}
use Rattle.tera_replies.specs.{Reply.IsLentLine, inner.Endings.AnswersCall}
use Rattle.tera_replies.proofs.ReplyLemmas.{answers_so, not_wanted}
use Rattle.tera_replies.proofs.feed.answer_command.Goals as goal

answers_lent : (state : State) (command : Command) (lent : LentForm) → ((outcome : Outcome) → StandsFor lent outcome → IsStep state command outcome state)
    → (reply : List ℕ) → IsLentLine lent reply → AnswersCall command state state reply false
answers_lent state command lent steps reply (outcome, stands, is_reply) = (outcome, steps outcome stands, is_reply, sym (not_wanted lent outcome stands))

pub returns-in-Some : goal.returns-in-Some
returns-in-Some g c =
    let so = answers_lent _ (command_form c.args.command) (lent_form c.in-Some.lent) c.in-Some.ensures.step in
    let a = answers_so c.write_lent-answered.result _ _ _ (AnswersCall (command_form c.args.command) c.args.context.now c.args.context.now) _ so
    c.write_lent-answered.ensures.ok c.write_lent-answered.ensures.err in
    record { ok = a.ok; err = a.err; lent = λ some. a.only }

pub returns-in-None-clause-lent : goal.returns-in-None-clause-lent
returns-in-None-clause-lent g c = λ some.
    let none = subst IsSome (sym c.in-None.ensures.lent) some in cc
