-- The report that is kept is that of the line feed.
use Rattle.std.proofs.Common.{◌⊎◌, subst}
use Rattle.tera_report.specs.Report.{Report}
use Rattle.tera_c.specs.Sessions.{IsReported, IsPutOff}
use Rattle.tera_c.proofs.session_state.SessionState.refuse.Goals as goal

pub returns-in-Ok : goal.returns-in-Ok
returns-in-Ok c =
    let old = c.args.self.now in
    let new = c.keep_report.new.self in
    subst (λ (report : Report). IsReported report old new c.keep_report.result ⊎ IsPutOff old new c.keep_report.result) c.in-Ok.ensures.ok
    c.keep_report.ensures
