use Rattle.tera_scalars.proofs.TextLemmas.{chars_le_bytes}
use Rattle.std.proofs.Common.{false}
use Rattle.tera_scalars.proofs.text.length_to_reckon_with.Goals as goal

pub returns-else-needs_count-clause-enough : goal.returns-else-needs_count-clause-enough
returns-else-needs_count-clause-enough c = chars_le_bytes false _ c.utf8.text
