use Rattle.std.proofs.Common.{◌≤◌, ◌+◌, ◌*◌, length}
use Rattle.tera_page.proofs.Rows.{tightness}
use Rattle.tera_page.proofs.expression.+read.Given as goal
use Rattle.tera_page.specs.Expressions.{Reads, pipes}
use Rattle.tera_page.specs.Parsing.{level_of, row_level, symbols_of}
use Rattle.tera_page.specs.View.{expression_of}

-- what is read so far is of the row's level
abbrev pub invariant-read_row-row : goal.invariant-read_row-row
invariant-read_row-row l =
    Reads (row_level l.row) (expression_of l.left) (symbols_of l.symbols) (symbols_of l.rest)
    × (length l.rest ≤ length l.symbols)

abbrev pub decreases-read_row-row : goal.decreases-read_row-row
decreases-read_row-row l = length l.rest

abbrev pub decreases-read : goal.decreases-read
decreases-read l = 32 * length l.symbols.now + 2 * tightness (level_of l.level) + 1

abbrev pub decreases-read_row : goal.decreases-read_row
decreases-read_row l = 32 * length l.symbols.now + 2 * tightness (row_level l.row)

abbrev pub decreases-read_not : goal.decreases-read_not
decreases-read_not l = 32 * length l.symbols.now + 14

abbrev pub decreases-read_comparison : goal.decreases-read_comparison
decreases-read_comparison l = 32 * length l.symbols.now + 12

abbrev pub decreases-read_opposite : goal.decreases-read_opposite
decreases-read_opposite l = 32 * length l.symbols.now + 4

abbrev pub decreases-read_power : goal.decreases-read_power
decreases-read_power l = 32 * length l.symbols.now + 2

abbrev pub decreases-read_alone : goal.decreases-read_alone
decreases-read_alone l = 32 * length l.symbols.now

abbrev pub decreases-read_group : goal.decreases-read_group
decreases-read_group l = 32 * length l.symbols.now + 22

-- filters so far are behind what is read
abbrev pub invariant-read_piped-pipes : goal.invariant-read_piped-pipes
invariant-read_piped-pipes l =
    Reads pipes (expression_of l.inner) (symbols_of l.symbols) (symbols_of l.rest) × (length l.rest ≤ length l.symbols)

abbrev pub decreases-read_piped-pipes : goal.decreases-read_piped-pipes
decreases-read_piped-pipes l = length l.rest

abbrev pub decreases-read_piped : goal.decreases-read_piped
decreases-read_piped l = 32 * length l.symbols.now + 6
