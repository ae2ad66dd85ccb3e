-- What is put is the reply to the outcome for which the loan stands, and a line feed.
use Rattle.std.proofs.Common.{◌≡◌, rules, refl, codes, Ok, Some, None}
use Rattle.std.proofs.lemmas.Result.{MatchResult-weaker}
use Rattle.tera_context.specs.Known.{known_form}
use Rattle.tera_context.specs.Lent.{lent_form}
use Rattle.tera_meaning.specs.Answer.{found}
use Rattle.tera_report.proofs.PutLaws.{puts_these}
use Rattle.tera_context.specs.Lent
use Rattle.tera_replies.proofs.answer.put_lent.Goals as goal

pub returns-in-Found-None : goal.returns-in-Found-None
returns-in-Found-None g c =
    let is : lent_form c.args.lent ≡ Lent.found None = search rules in
    rw is (puts_these g.W.Sink.takes g.W.Sink.fails _ c.put.result (codes "nothing\n") _ _ (Ok (found None), refl, (codes "nothing", refl, refl)) c.put.ensures)

pub returns-in-Found-Some : goal.returns-in-Found-Some
returns-in-Found-Some g c =
    let value = c.in-Found-Some.value.now in
    let is : lent_form c.args.lent ≡ Lent.found (Some value) = search rules in
    rw is (MatchResult-weaker c.put_value.result c.put_value.ensures
    (λ _ (line, reply, took). (line, (Ok (found (Some value)), refl, reply), took))
    (λ _ (line, reply, failed). (line, (Ok (found (Some value)), refl, reply), failed)))

pub returns-in-Tell : goal.returns-in-Tell
returns-in-Tell g c =
    let answer = known_form c.in-Tell.known in
    let is : lent_form c.args.lent ≡ Lent.known answer = search rules in
    rw is (MatchResult-weaker c.put_known.result c.put_known.ensures
    (λ _ (line, reply, took). (line, (Ok answer, refl, reply), took))
    (λ _ (line, reply, failed). (line, (Ok answer, refl, reply), failed)))
