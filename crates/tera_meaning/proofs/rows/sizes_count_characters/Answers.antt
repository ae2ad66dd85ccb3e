use Rattle.std.proofs.Common.{rules}
use Rattle.std.specs.Str.{chars}
use Rattle.tera_meaning.proofs.rows.sizes_count_characters.Goals as goal

pub returns : goal.returns
unfolding chars
returns c = search rules
