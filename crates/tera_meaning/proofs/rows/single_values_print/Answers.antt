use Rattle.std.proofs.Common.{rules}
use Rattle.std.specs.Fmt.{digits}
use Rattle.std.specs.Str.Lossy.{utf8_valid_len, utf8_error_len, utf8_lossy}
use Rattle.std.specs.Str.{chars, is_utf8}
use lib.Utf8.{encode}
use Rattle.tera_meaning.proofs.rows.single_values_print.Goals as goal

pub returns : goal.returns
unfolding digits utf8_lossy utf8_valid_len utf8_error_len is_utf8 chars encode
returns c = search rules
