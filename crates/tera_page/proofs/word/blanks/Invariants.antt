use Rattle.std.proofs.Common.{◌≡◌, ℕ, ◌<◌, true, slice_index}
use Rattle.tera_page.proofs.word.blanks.Given as goal
use Rattle.tera_page.specs.Words.{is_blank}

-- there are blanks so far
abbrev pub invariant-loop-at : goal.invariant-loop-at
invariant-loop-at l = (i : ℕ) → i < l.at → is_blank (slice_index l.bytes i) ≡ true
