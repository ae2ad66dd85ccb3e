-- What was put is the reply, or a write failed.
use Rattle.std.proofs.Common.{refl}
use Rattle.std.proofs.lemmas.Result.{err_from_is_err_and}
use Rattle.tera_context.specs.Lent.{lent_form}
use Rattle.tera_replies.specs.Reply.{IsLentLine}
use Rattle.tera_replies.proofs.ReplyLemmas.{reply_sent, reply_failed}
use Rattle.tera_replies.proofs.answer.write_lent.Goals as goal

pub returns-clause-ok : goal.returns-clause-ok
returns-clause-ok g c =
    let sink = g.W.Sink in
    let (line, is, sent) = reply_sent sink.takes sink.fails sink.flushes sink.flush_fails (IsLentLine (lent_form c.args.lent)) c.put_lent.result _ _ _
    c.written.ensures c.in_ok-written.was c.put_lent.ensures in
    (line, is, sent, refl)

pub returns-in_err-written-clause-err : goal.returns-in_err-written-clause-err
returns-in_err-written-clause-err g c =
    let sink = g.W.Sink in
    let p = err_from_is_err_and c.from_residual.result c.from_residual.ensures.1 in
    rw (p.1, p.2) (reply_failed sink.takes sink.fails sink.flushes sink.flush_fails (IsLentLine (lent_form c.args.lent)) c.put_lent.result _ _ _ _
    c.written.ensures c.in_err-written.was c.put_lent.ensures)
