use Rattle.std.proofs.Common.{◌≡◌, ◌+◌, not}
use Rattle.std.specs.List.{count_by, suffix_len}
use Rattle.tera_page.proofs.place.line_and_column.Given as goal
use Rattle.tera_page.specs.Places.{is_line_feed}

-- the line and the column behind the characters so far
abbrev pub invariant-loop-character : goal.invariant-loop-character
invariant-loop-character l =
    (l.line ≡ count_by is_line_feed l.yielded + 1) × (l.column ≡ suffix_len (λ c. not (is_line_feed c)) l.yielded)
