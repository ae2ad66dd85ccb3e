-- The report of the message, in a box.
use Rattle.std.proofs.Common.{ap, inr, subst, ◌∙◌}
use Rattle.tera.specs.Errors.{kind_of, refusal_of, report_of, source_of}
use Rattle.tera.specs.Refusal.{syntax_error}
use Rattle.tera_page.proofs.fault.report.Goals as goal
use Rattle.tera_page.specs.Places.{IsReportAt}

pub returns-clause-ok : goal.returns-clause-ok
returns-clause-ok c =
    let made = c.in_ok-report.report in
    let at = subst (λ words. IsReportAt words c.args.file.now c.args.source.now c.args.at.now (report_of made)) c.in_ok-message.ensures.ok
    c.in_ok-report.ensures.ok in
    inr (
      report_of made,
      at,
      record {
        kind = ap (λ e. refusal_of (kind_of e)) c.new-2.ensures ∙ ap (λ r. syntax_error (report_of r)) c.in_ok-new.ensures.ok;
        source = ap source_of c.new-2.ensures;
      },
    )
