use Rattle.std.proofs.Common.{refl}
use lib.Utf8.{encode}
use Rattle.std.specs.Fmt.{digits}
use Rattle.std.specs.Str.{chars}
use Rattle.tera_script.proofs.write_laws.worked_literals.Goals as goal

pub returns : goal.returns
unfolding encode digits chars
returns c = record {
  word = refl;
  least = refl;
  suffix = refl;
  no_suffix = refl;
  later_kind = refl;
  last_kind = refl;
  safe = refl;
  ascii = refl;
  escapes = refl;
  byte_string = refl;
  parts = refl;
  pairs = refl;
  lent_key = refl;
}
