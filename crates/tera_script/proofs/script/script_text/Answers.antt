use Rattle.tera_script.proofs.SavedChecks.{nothing_refused, refuses}
use Rattle.tera_script.proofs.script.script_text.Goals as goal

pub returns-in-Err-clause-err : goal.returns-in-Err-clause-err
returns-in-Err-clause-err c =
    refuses c.args.context.now _ c.new-made.result c.write_script.new.out c.in-Err.error c.refusal.result c.in-Err.ensures c.refusal.ensures

pub returns-in-Err-clause-nothing : goal.returns-in-Err-clause-nothing
returns-in-Err-clause-nothing c none =
    absurd (nothing_refused c.args.ascii c.args.context.now c.new-made.result c.write_script.new.out c.in-Err.error c.new-made.ensures.len c.in-Err.ensures
    none)
