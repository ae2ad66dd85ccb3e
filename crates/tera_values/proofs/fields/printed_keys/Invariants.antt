-- What the keys so far print and what those left are to print is what all print.
use Rattle.std.proofs.Common.{◌≡◌, ◌++◌, map, string_bytes}
use Rattle.tera_meaning.specs.Fields.{shown_keys}
use Rattle.tera_values.proofs.fields.printed_keys.Given as goal

abbrev pub invariant-loop-key : goal.invariant-loop-key
invariant-loop-key l = map string_bytes l.texts.items ++ shown_keys l.key-iterator ≡ shown_keys l.fn.all
