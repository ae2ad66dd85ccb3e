use denote.Text.{Utf8}
use denote.Shadow.{shadow}
use Rattle.std.proofs.Common.{◌≤◌, ◌++◌, List, length, map}
use Rattle.tera_page.proofs.symbol.symbols_in.Given as goal
use Rattle.tera_page.specs.Symbols.{AreSymbols, BeginWith, Symbol}
use Rattle.tera_page.specs.Tokens.{symbol_of}

-- with the symbols of what is left, or with those that it begins with, those so far are those of the text, or those that it begins with
abbrev pub invariant-symbols : goal.invariant-symbols
invariant-symbols l =
    shadow (Utf8 l.rest) × ((ss : List Symbol) → AreSymbols ss l.rest → AreSymbols (map symbol_of l.found.items ++ ss) l.text)
    × ((ss : List Symbol) → BeginWith ss l.rest → BeginWith (map symbol_of l.found.items ++ ss) l.text) × (length l.found.items ≤ 128)

abbrev pub decreases-symbols : goal.decreases-symbols
decreases-symbols l = length l.rest
