-- Which symbols spell an expression.
use Rattle.std.specs.Prelude.{◌≡◌, ℕ, List, [], ◌∷◌, ◌++◌, codes}
use Rattle.tera.specs.Refusal as layer
use Rattle.tera_filters.specs.Words.{word_of}
use Rattle.tera_filters.specs.declared.filter.Filter.{Filter}
use Rattle.tera_page.specs.Arguments.{AreArguments, IsOperand}
use Rattle.tera_page.specs.Symbols as symbol
use Rattle.tera_page.specs.Symbols.{AreSymbols, Symbol, sign, word}
use Rattle.tera_page.specs.Template.{Argument, Binary, Expression, Operand, Written, denied}
use Rattle.tera_page.specs.Template.{opposite, is_defined, either, both, within, not_within, equal}
use Rattle.tera_page.specs.Template.{unequal, less, at_most, more, at_least, arithmetic, operand}
use Rattle.tera_page.specs.Template.{one, two, piped}

-- how tightly an expression holds together, from `or` to what stands alone
pub data Level : Type 0 where
  ors : Level
  ands : Level
  nots : Level
  comparisons : Level
  sums : Level
  products : Level
  pipes : Level
  opposites : Level
  powers : Level
  alone : Level

abbrev pub tighter : Level → Level
tighter ors = ands
tighter ands = nots
tighter nots = comparisons
tighter comparisons = sums
tighter sums = products
tighter products = pipes
tighter pipes = opposites
tighter opposites = powers
tighter powers = alone
tighter alone = alone

-- the level of what is made of two
abbrev pub level : Binary → Level
level either = ors
level both = ands
level (arithmetic layer.plus) = sums
level (arithmetic layer.minus) = sums
level (arithmetic layer.times) = products
level (arithmetic layer.floor_division) = products
level (arithmetic layer.remainder) = products
level (arithmetic layer.power) = powers
level _ = comparisons

-- that of the first of the two: of several in a row the last takes all before it, but comparisons
-- and powers do not
abbrev pub first_level : Level → Level
first_level comparisons = sums
first_level powers = alone
first_level l = l

-- that of the second: a power may have a sign, and a power of its own
abbrev pub second_level : Level → Level
second_level powers = opposites
second_level l = tighter l

-- what stands between the two
abbrev pub between : Binary → List Symbol
between either = sign symbol.or ∷ []
between both = sign symbol.and ∷ []
between within = sign symbol.in_ ∷ []
between not_within = sign symbol.not_ ∷ sign symbol.in_ ∷ []
between equal = sign symbol.equal ∷ []
between unequal = sign symbol.unequal ∷ []
between less = sign symbol.less ∷ []
between at_most = sign symbol.at_most ∷ []
between more = sign symbol.more ∷ []
between at_least = sign symbol.at_least ∷ []
between (arithmetic layer.plus) = sign symbol.plus ∷ []
between (arithmetic layer.minus) = sign symbol.minus ∷ []
between (arithmetic layer.times) = sign symbol.times ∷ []
between (arithmetic layer.floor_division) = sign symbol.floor ∷ []
between (arithmetic layer.remainder) = sign symbol.remainder ∷ []
between (arithmetic layer.power) = sign symbol.power ∷ []

-- the first symbols are an expression that holds together so tightly, and then the rest
pub data Reads : Level → Expression → List Symbol → List Symbol → Type 0 where
  tighter_one : (l : Level) (e : Expression) (ss rest : List Symbol)
      → Reads (tighter l) e ss rest → Reads l e ss rest
  of_two : (operator : Binary) (e f : Expression) (ss ts rest : List Symbol)
      → Reads (first_level (level operator)) e ss (between operator ++ ts)
      → Reads (second_level (level operator)) f ts rest
      → Reads (level operator) (two operator e f) ss rest
  not_one : (e : Expression) (ss rest : List Symbol) → Reads nots e ss rest
      → Reads nots (one denied e) (sign symbol.not_ ∷ ss) rest
  minus_one : (e : Expression) (ss rest : List Symbol) → Reads opposites e ss rest
      → Reads opposites (one opposite e) (sign symbol.minus ∷ ss) rest
  piped_one : (f : Filter) (e : Expression) (given : List Argument) (ss ts rest : List Symbol)
      → Reads pipes e ss (sign symbol.bar ∷ word (word_of f) ∷ ts) → AreArguments given ts rest
      → Reads pipes (piped f e given) ss rest
  defined_one : (e : Expression) (ss rest : List Symbol)
      → Reads sums e ss (sign symbol.is ∷ word (codes "defined") ∷ rest)
      → Reads comparisons (one is_defined e) ss rest
  undefined_one : (e : Expression) (ss rest : List Symbol)
      → Reads sums e ss (sign symbol.is ∷ sign symbol.not_ ∷ word (codes "defined") ∷ rest)
      → Reads comparisons (one denied (one is_defined e)) ss rest
  in_parentheses : (e : Expression) (ss rest : List Symbol)
      → Reads ors e ss (sign symbol.closes ∷ rest)
      → Reads alone e (sign symbol.opens ∷ ss) rest
  alone_one : (o : Operand) (s : Symbol) (rest : List Symbol) → IsOperand o s
      → Reads alone (operand o) (s ∷ rest) rest

-- that is said in a tag, which begins the text, and the expression is written by it
abbrev pub Writes : Written → List ℕ → List ℕ → Type 0
Writes written said text =
    (written.text ≡ said) × (written.from ≡ text)
    × ((ss : List Symbol) × AreSymbols ss said × Reads ors written.expression ss [])
