-- An empty text that grew by a report holds just that.
use Rattle.std.proofs.Common.{inl, refl, ap, ◌∙◌, List, ◌++◌, ℕ}
use Rattle.tera_report.specs.Errors.{report_of}
use Rattle.tera_report.specs.Report.{report_text}
use Rattle.tera_replies.specs.Script.{ended}
use Rattle.tera_c.proofs.session_state.SessionState.keep_report.Goals as goal

pub returns-in-Ok : goal.returns-in-Ok
returns-in-Ok c =
    let told = ended (report_text (report_of c.args.report.now)) in
    inl (c.into_text.ensures ∙ c.in-Ok.ensures ∙ ap (λ (front : List ℕ). front ++ told) c.new-text.ensures.empty, refl, refl)
