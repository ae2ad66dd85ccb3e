use Rattle.std.proofs.Common.{rules}
use Rattle.std.specs.Fmt.{digits, debug_escape}
use Rattle.std.specs.Str.Lossy.{utf8_valid_len, utf8_error_len, utf8_lossy}
use Rattle.std.specs.Str.{chars, is_utf8}
use lib.Utf8.{encode}
use Rattle.tera_meaning.proofs.rows.texts_and_bytes_print_in_arrays.Goals as goal

pub returns : goal.returns
unfolding digits debug_escape utf8_lossy utf8_valid_len utf8_error_len is_utf8 chars encode
returns c = search rules
