use Rattle.std.proofs.Common.{◌≡◌, length}
use Rattle.tera_script.specs.TextParts.{text_from, at_token}
use Rattle.tera_script.specs.Readers.{behind}
use Rattle.tera_script.proofs.text.decode_text.Given as goal

-- what is decoded, and then what the rest gives, is what all bytes give
abbrev pub invariant-loop-decoded : goal.invariant-loop-decoded
invariant-loop-decoded l = behind l.decoded.items (text_from l.rest at_token) ≡ text_from l.bytes at_token

abbrev pub decreases-loop-decoded : goal.decreases-loop-decoded
decreases-loop-decoded l = length l.rest
