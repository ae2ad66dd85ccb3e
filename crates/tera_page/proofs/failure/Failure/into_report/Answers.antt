-- A report, or want of memory.
use Rattle.tera_page.proofs.Failing.{reports_failed, reports_want}
use Rattle.tera_page.proofs.failure.Failure.into_report.Goals as goal

pub returns-then-is_want : goal.returns-then-is_want
returns-then-is_want c pieces fails = reports_want c.args.file.now c.args.source.now pieces c.from.result c.from.ensures

pub returns-in-Ok : goal.returns-in-Ok
returns-in-Ok c pieces fails =
    reports_failed c.args.file.now c.args.source.now pieces c.args.self c.in-Ok.error c.is_want.result c.if-is_want.false c.is_want.ensures fails
    c.in-Ok.ensures.ok

pub returns : goal.returns
returns c pieces fails = reports_want c.args.file.now c.args.source.now pieces c.in-Err.error c.in-Err.ensures.err
