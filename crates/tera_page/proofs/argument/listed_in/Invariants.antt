use Rattle.std.proofs.Common.{◌≤◌, ◌++◌, List, length}
use Rattle.tera_page.proofs.argument.listed_in.Given as goal
use Rattle.tera_page.specs.Arguments.{AreListed, AreMore}
use Rattle.tera_page.specs.Parsing.{symbols_of}
use Rattle.tera_page.specs.Symbols.{Symbol}
use Rattle.tera_page.specs.Template.{Argument}
use Rattle.tera_page.specs.View.{arguments_of}

-- arguments that may follow are listed with those so far
abbrev pub invariant-arguments : goal.invariant-arguments
invariant-arguments l =
    ((others : List Argument) (rest : List Symbol) → AreMore others (symbols_of l.left) rest
    → AreListed (arguments_of l.given.items ++ others) (symbols_of l.symbols) rest)
    × (length l.left ≤ length l.symbols)

abbrev pub decreases-arguments : goal.decreases-arguments
decreases-arguments l = length l.left
