-- The report of what the error tells, in a box.
use Rattle.std.specs.Prelude.{◌≡◌, ◌++◌}
use Rattle.std.specs.String.{string_bytes}
use Rattle.std.proofs.Common.{ap, subst, ◌∙◌}
use Rattle.tera.specs.Errors.{kind_of, refusal_of, report_of, source_of}
use Rattle.tera.specs.Refusal.{rendering_error}
use Rattle.tera_page.proofs.failure.report.Goals as goal
use Rattle.tera_page.specs.Places.{IsReportAt}

pub returns-clause-ok : goal.returns-clause-ok
returns-clause-ok c =
    let made = c.in_ok-report.report in
    let (words, tells, put) = c.in_ok-tell_to.ensures in
    let same : string_bytes c.into_text.result ≡ words = c.into_text.ensures ∙ put.grows ∙ ap (λ l. l ++ words) c.new-words.ensures.empty in
    let at = subst (λ l. IsReportAt l c.args.file.now c.args.source.now c.args.rest.now (report_of made)) same c.in_ok-report.ensures.ok in (
      words,
      report_of made,
      tells,
      at,
      record {
        kind = ap (λ e. refusal_of (kind_of e)) c.new-2.ensures ∙ ap (λ r. rendering_error (report_of r)) c.in_ok-new.ensures.ok;
        source = ap source_of c.new-2.ensures;
      },
    )
