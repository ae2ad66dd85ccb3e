use Rattle.std.proofs.Common.{rules, ap, subst, ◌∙◌}
use Rattle.std.specs.FinMap.{entries}
use Rattle.tera_context.specs.Context.{lent_entries}
use Rattle.tera_script.specs.Saved.{script_of, TellsFirst}
use Rattle.tera_script.proofs.SavedChecks.{told_writes}
use Rattle.tera_script.proofs.script.write_script.Goals as goal

pub returns-in_err-check : goal.returns-in_err-check
returns-in_err-check g c =
    let error = c.in_err-check.field-0.0 in
    let told = told_writes g.S.Sink.takes g.S.Sink.fails c.args.context.now (script_of c.args.ascii (entries c.args.context.now)) c.args.out.now error
    (subst (λ es. TellsFirst es error) (ap lent_entries c.deref.ensures.value ∙ c.in-Ok.ensures.ok) c.in_err-check.ensures) in
    search rules
