use Rattle.tera_report.specs.Escaping.{Spells}
use Rattle.tera_report.specs.inner.SinkLaws.{decided_by}
use Rattle.tera_report.proofs.EscapeLaws.{one_spelling_each}
use Rattle.tera_report.proofs.escape.escape_into_room.Goals as goal

pub returns-clause-decided : goal.returns-clause-decided
returns-clause-decided c = λ bytes spells.
    decided_by (λ other. Spells other c.args.text.now) bytes (λ other h. one_spelling_each other bytes c.args.text.now h spells) _ _ _ c.escape_to.ensures
