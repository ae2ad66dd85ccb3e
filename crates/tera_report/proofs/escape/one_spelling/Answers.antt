use Rattle.tera_report.proofs.EscapeLaws.{Spells-escaped, spelling_is_escaped, one_spelling_each}
use Rattle.tera_report.proofs.escape.one_spelling.Goals as goal

pub returns : goal.returns
returns c = record { spelled = Spells-escaped; word = spelling_is_escaped; unique = one_spelling_each }
