-- The word, the value and the line feed are put in turn.
use Rattle.std.proofs.Common.{rules, refl, sym, append_assoc, ◌++◌, codes, Ok, Some}
use Rattle.std.proofs.lemmas.Result.{MatchResult-weaker}
use Rattle.tera_report.specs.Sink.{OfSome}
use Rattle.tera_meaning.specs.Answer.{found}
use Rattle.tera_replies.specs.{Reply.IsReplyLine, Script.ended}
use Rattle.tera_replies.proofs.ReplyLemmas.{some_form}
use Rattle.tera_replies.proofs.answer.put_value.Goals as goal

pub returns-in_err-put : goal.returns-in_err-put
returns-in_err-put g c =
    let (form, is) = some_form c.args.value.now in
    let failed = g.met.W.Sink.failed_early _ (codes "value ") _ (ended form) c.in_err-put.ensures in
    let bad : OfSome g.W.Sink.fails (IsReplyLine (Ok (found (Some c.args.value.now)))) c.args.out.now c.put.new.out =
    (codes "value " ++ ended form, (codes "value " ++ form, (form, is, refl), sym (append_assoc (codes "value ") form (codes "\n"))), failed) in
    search rules

pub returns-in_err-put_form : goal.returns-in_err-put_form
returns-in_err-put_form g c =
    let (form, is, refused) = c.in_err-put_form.ensures in
    let failed = g.met.W.Sink.failed_early _ _ _ (codes "\n") (g.met.W.Sink.failed_later _ (codes "value ") _ form _ c.in_ok-put.ensures refused) in
    let bad : OfSome g.W.Sink.fails (IsReplyLine (Ok (found (Some c.args.value.now)))) c.args.out.now c.put_form.new.out =
    (ended (codes "value " ++ form), (codes "value " ++ form, (form, is, refl), refl), failed) in
    search rules

pub returns : goal.returns
returns g c =
    let (form, is, took) = c.in_ok-put_form.ensures in
    let first = g.met.W.Sink.joined _ (codes "value ") _ form _ c.in_ok-put.ensures took in
    MatchResult-weaker c.put-2.result c.put-2.ensures
    (λ _ last. (ended (codes "value " ++ form), (codes "value " ++ form, (form, is, refl), refl), g.met.W.Sink.joined _ _ _ (codes "\n") _ first last))
    (λ _ bad. (ended (codes "value " ++ form), (codes "value " ++ form, (form, is, refl), refl), g.met.W.Sink.failed_later _ _ _ (codes "\n") _ first bad))
