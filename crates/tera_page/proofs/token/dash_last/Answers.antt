-- What `strip_suffix` says of a byte.
use Rattle.std.proofs.Common.{arith, refl}
use Rattle.std.proofs.lemmas.Str.Pattern.{strip_suffix_char}
use Rattle.tera_page.proofs.token.dash_last.Goals as goal

pub returns-in-Some : goal.returns-in-Some
returns-in-Some c = rw c.in-Some.is at (strip_suffix_char 45 c.args.text.now c.strip_suffix.result c.strip_suffix.ensures.cases (omega arith))

pub returns-in-None : goal.returns-in-None
returns-in-None c = (refl, rw c.in-None.is at (strip_suffix_char 45 c.args.text.now c.strip_suffix.result c.strip_suffix.ensures.cases (omega arith)))
