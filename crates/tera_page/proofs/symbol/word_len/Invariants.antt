use Rattle.std.proofs.Common.{◌≡◌, ℕ, ◌<◌, true, slice_index}
use Rattle.tera_page.proofs.symbol.word_len.Given as goal
use Rattle.tera_page.specs.Symbols.{is_word_byte}

-- there are bytes of a word so far
abbrev pub invariant-loop-at : goal.invariant-loop-at
invariant-loop-at l = (i : ℕ) → i < l.at → is_word_byte (slice_index l.bytes i) ≡ true
