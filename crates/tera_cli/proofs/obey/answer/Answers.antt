-- What came of a line, by what ended it.
use Rattle.std.proofs.Common.{rules, inl, inr, ap, subst, ◌∙◌, ◌≢◌, refl}
use Rattle.std.proofs.lemmas.Result.{IfErr-weaker}
use Rattle.tera_report.specs.Errors.{report_of}
use Rattle.tera_report.specs.Report.{report_text}
use Rattle.tera_replies.proofs.ReplayLaws.{told_comes}
use Rattle.tera_replies.specs.Output.{TakesOrFails}
use Rattle.tera_replies.specs.Script.{ended}
use Rattle.tera_replies.specs.declared.fault.Fault.TheVariants.{WriteFailed}
use Rattle.tera_cli.specs.Why.{TellsWhy}
use Rattle.tera_cli.proofs.ConversationLemmas.{none_answered}
use Rattle.tera_cli.proofs.obey.answer.Goals as goal

pub returns-in-Ok-clause-err : goal.returns-in-Ok-clause-err
returns-in-Ok-clause-err g c =
    let (text, runs, sends) = c.in-Ok.ensures.ok in
    IfErr-weaker c.pass_on.result _ _
    (λ fault h. (h.0, refl, (text, _, runs, record { front = text; sent = _; sends = sends; fault = inr (refl, h.1) })))
    c.pass_on.ensures.err

pub returns-in-Err-BadLine : goal.returns-in-Err-BadLine
returns-in-Err-BadLine g c =
    let told = rw c.in-Err-BadLine.field-0-is at c.in-Err-BadLine.ensures.err in
    let other : c.in-Err-BadLine.field-0 ≢ WriteFailed = search rules in
    record {
      ok = inr (
        c.in-Err-BadLine.ensures.unchanged other,
        told.2,
        inl (
          told.1,
          subst (λ report. TellsWhy (TakesOrFails g.E.Sink.takes g.E.Sink.fails) c.args.why c.args.line.now
              (ended (report_text report)) c.args.err.now c.tell_bad_line.new.err)
              (ap report_of c.deref.ensures ∙ told.0) c.tell_bad_line.ensures,
        ),
      );
      err = tt;
    }

pub returns-in-Err : goal.returns-in-Err
returns-in-Err g c =
    let other : c.in-Err.field-0 ≢ WriteFailed = search rules in
    record {
      ok = inr (c.in-Err.ensures.unchanged other, none_answered _ _ _ _ _ _ _ other c.in-Err.ensures.err, inr c.tell_no_memory.ensures);
      err = tt;
    }
