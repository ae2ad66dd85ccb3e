-- By induction on what spells the parts.
use Rattle.std.specs.Prelude.{[]}
use Rattle.tera_page.proofs.Endings.{parts_fail_in}
use Rattle.tera_page.proofs.laws.refusals_stand_in_the_text.Goals as goal

pub returns : goal.returns
returns c parts text state spells = parts_fail_in parts text [] spells state
