-- What is read of the line of `set`.
use Rattle.std.proofs.Common.{◌≡◌, ◌∙◌, List, ℕ, subst}
use Rattle.tera_context.specs.Request.{command_form}
use Rattle.tera_meaning.specs.Request.{asking, set}
use Rattle.tera_script.specs.Line.{IsBad, IsSkipped, Says}
use Rattle.tera_c.specs.Values.{set_line}
use Rattle.tera_c.proofs.NameLemmas.{found_by}
use Rattle.tera_c.proofs.names.value_of.Goals as goal

pub returns-in-Says : goal.returns-in-Says
returns-in-Says c =
    let whole : c.as_slice.result.now ≡ set_line c.args.name.now c.args.literal.now = c.as_slice.ensures.value ∙ c.in_ok-line.ensures in
    let read = rw c.in-Says.is at c.in_ok-command.ensures.reading in
    found_by c.one_command.ensures c.args.name.now c.args.literal.now (command_form c.in-Says.command) c.value_set.result
    (subst (λ (line : List ℕ). Says line (command_form c.in-Says.command)) whole read) c.value_set.ensures

pub returns-in-Skipped : goal.returns-in-Skipped
returns-in-Skipped c =
    let whole : c.as_slice.result.now ≡ set_line c.args.name.now c.args.literal.now = c.as_slice.ensures.value ∙ c.in_ok-line.ensures in
    let read = rw c.in-Skipped.is at c.in_ok-command.ensures.reading in
    λ found. c.skipped_says_nothing.ensures _ (asking (set c.args.name.now found.0)) (subst IsSkipped whole read) found.1

pub returns : goal.returns
returns c =
    let whole : c.as_slice.result.now ≡ set_line c.args.name.now c.args.literal.now = c.as_slice.ensures.value ∙ c.in_ok-line.ensures in
    let read = rw c.in-Bad.is at c.in_ok-command.ensures.reading in
    λ found. (subst IsBad whole read).1 (asking (set c.args.name.now found.0)) found.1
