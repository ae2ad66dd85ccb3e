use Rattle.std.proofs.Common.{rules}
use Rattle.std.specs.Str.{chars}
use lib.Utf8.{encode}
use Rattle.tera_meaning.proofs.looked_up.items_are_found_by_meaning.Goals as goal

pub returns : goal.returns
unfolding chars encode
returns c = search rules
