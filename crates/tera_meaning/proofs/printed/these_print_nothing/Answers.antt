use Rattle.std.specs.Prelude.{[], refl}
use Rattle.std.proofs.lemmas.Str.{utf8_lossy_empty}
use Rattle.tera_meaning.proofs.printed.these_print_nothing.Goals as goal

pub returns-clause-bytes : goal.returns-clause-bytes
returns-clause-bytes c = (refl, utf8_lossy_empty [] refl)
