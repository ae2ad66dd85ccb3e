-- What was put is the reply, or a write failed.
use Rattle.std.proofs.Common.{◌≡◌, refl, rules, Ok, Err}
use Rattle.std.proofs.lemmas.Result.{err_from_is_err_and}
use Rattle.tera_context.specs.Call.{answer_of}
use Rattle.tera_report.specs.Errors.{kind_of, refusal_of}
use Rattle.tera_replies.specs.{Reply.IsReplyLine, inner.Stated.outcome_stated}
use Rattle.tera_replies.proofs.ReplyLemmas.{reply_sent, reply_failed}
use Rattle.tera_replies.proofs.answer.write_answer.Goals as goal

pub returns-in_ok-written-in-Ok-clause-ok : goal.returns-in_ok-written-in-Ok-clause-ok
returns-in_ok-written-in-Ok-clause-ok g c =
    let sink = g.W.Sink in
    let (line, reply, sent) = reply_sent sink.takes sink.fails sink.flushes sink.flush_fails (IsReplyLine (Ok (answer_of c.in-Ok.answer))) c.put_answer.result
    _ _ _ c.written.ensures c.in_ok-written-in-Ok.was c.put_answer.ensures in
    let is : outcome_stated c.args.answer.now ≡ Ok (answer_of c.in-Ok.answer) = search rules in
    rw is (line, reply, sent, refl)

pub returns-in_err-written-in-Ok-clause-err : goal.returns-in_err-written-in-Ok-clause-err
returns-in_err-written-in-Ok-clause-err g c =
    let sink = g.W.Sink in
    let p = err_from_is_err_and c.from_residual.result c.from_residual.ensures.1 in
    let is : outcome_stated c.args.answer.now ≡ Ok (answer_of c.in-Ok.answer) = search rules in
    rw (is, p.1, p.2) (reply_failed sink.takes sink.fails sink.flushes sink.flush_fails (IsReplyLine (Ok (answer_of c.in-Ok.answer)))
    c.put_answer.result _ _ _ _ c.written.ensures c.in_err-written-in-Ok.was c.put_answer.ensures)

pub returns-in_ok-written-in-Err-clause-ok : goal.returns-in_ok-written-in-Err-clause-ok
returns-in_ok-written-in-Err-clause-ok g c =
    let sink = g.W.Sink in
    let (line, reply, sent) = reply_sent sink.takes sink.fails sink.flushes sink.flush_fails (IsReplyLine (Err (refusal_of (kind_of c.in-Err.error))))
    c.put_refusal.result _ _ _ c.written-in-Err.ensures c.in_ok-written-in-Err.was c.put_refusal.ensures in
    let is : outcome_stated c.args.answer.now ≡ Err (refusal_of (kind_of c.in-Err.error)) = search rules in
    rw is (line, reply, sent, c.is_want.ensures)

pub returns-in_err-written-in-Err-clause-err : goal.returns-in_err-written-in-Err-clause-err
returns-in_err-written-in-Err-clause-err g c =
    let sink = g.W.Sink in
    let p = err_from_is_err_and c.from_residual-in_err-written-in-Err.result c.from_residual-in_err-written-in-Err.ensures.1 in
    let is : outcome_stated c.args.answer.now ≡ Err (refusal_of (kind_of c.in-Err.error)) = search rules in
    rw (is, p.1, p.2) (reply_failed sink.takes sink.fails sink.flushes sink.flush_fails (IsReplyLine (Err (refusal_of (kind_of c.in-Err.error))))
    c.put_refusal.result _ _ _ _ c.written-in-Err.ensures c.in_err-written-in-Err.was c.put_refusal.ensures)
