-- A text that grew twice grew by both.
use Rattle.std.proofs.Common.{◌∙◌, ap, List, [], ◌∷◌, ◌++◌, ℕ, append_assoc}
use Rattle.tera_report.specs.Growing.{grown_bytes}
use Rattle.tera_report.specs.Errors.{report_of}
use Rattle.tera_report.specs.Report.{report_text}
use Rattle.tera_replies.specs.Script.{line_feed}
use Rattle.tera_c.proofs.session_state.put_report.Goals as goal

pub returns : goal.returns
returns c =
    let told = report_text (report_of c.args.report.now) in
    c.in_ok-put.ensures.puts.grows ∙ ap (λ (front : List ℕ). front ++ line_feed ∷ []) c.in_ok-tell_to.ensures.grows
    ∙ append_assoc (grown_bytes c.args.text.now) told (line_feed ∷ [])
