use Rattle.std.proofs.Common.{rules}
use Rattle.std.specs.Str.{chars}
use lib.Utf8.{encode}
use Rattle.tera_meaning.proofs.slices.reversed_values_keep_their_parts.Goals as goal

pub returns : goal.returns
unfolding chars encode
returns c = search rules
