-- What the clauses of the reader of expressions cite.
use Rattle.std.specs.Prelude.{◌≤◌, List, map, length}
use Rattle.tera_page.specs.Arguments.{BeginsNoWord, NamesNone}
use Rattle.tera_page.specs.Expressions as grammar
use Rattle.tera_page.specs.Expressions.{Reads}
use Rattle.tera_page.specs.Symbols as symbol
use Rattle.tera_page.specs.Tokens.{symbol_of}
use Rattle.tera_page.specs.View.{expression_of}
use Rattle.tera_page.specs.declared.level.Level.{Level}
use Rattle.tera_page.specs.declared.level.Level.TheVariants as level
use Rattle.tera_page.specs.declared.level.Row.{Row}
use Rattle.tera_page.specs.declared.level.Row.TheVariants as row
use Rattle.tera_page.specs.declared.symbol.Symbol.{Symbol}
use Rattle.tera_page.specs.declared.symbol.Unread.{Unread}
use Rattle.tera_page.specs.declared.symbol.Unread.TheVariants.{Bad, Unnamed}
use Rattle.tera_page.specs.declared.tree.Expression.{Expression}

abbrev pub level_of : Level → grammar.Level
level_of level.Ors = grammar.ors
level_of level.Ands = grammar.ands
level_of level.Nots = grammar.nots
level_of level.Comparisons = grammar.comparisons
level_of level.Sums = grammar.sums
level_of level.Products = grammar.products
level_of level.Pipes = grammar.pipes
level_of level.Opposites = grammar.opposites
level_of level.Powers = grammar.powers
level_of level.Alone = grammar.alone

-- the level of what may stand several times in a row
abbrev pub row_level : Row → grammar.Level
row_level row.Ors = grammar.ors
row_level row.Ands = grammar.ands
row_level row.Sums = grammar.sums
row_level row.Products = grammar.products

abbrev pub symbols_of : List Symbol → List symbol.Symbol
symbols_of ss = map symbol_of ss

-- no word is first, or one that is the name of no filter
abbrev pub IsNoFilter : List Symbol → Unread → Type 0
IsNoFilter ss Bad = BeginsNoWord (symbols_of ss)
IsNoFilter ss Unnamed = NamesNone (symbols_of ss)
IsNoFilter ss _ = ⊥

-- the first symbols were read as that, and no more are left than there were
abbrev pub IsRead : grammar.Level → List Symbol → Expression → List Symbol → Type 0
IsRead l ss e rest =
    Reads l (expression_of e) (symbols_of ss) (symbols_of rest) × (length rest ≤ length ss)
