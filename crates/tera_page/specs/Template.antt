-- A template as a tree.
use Rattle.std.specs.Prelude.{ℕ, List, [], ◌∷◌, Option}
use Rattle.tera.specs.Form.{Form}
use Rattle.tera.specs.Refusal as layer
use Rattle.tera_filters.specs.declared.filter.Filter.{Filter}

-- where a value is found: at a name, or by a path from there
pub record Place : Type 0 where
  pub name : List ℕ
  pub to : Option (List ℕ)

-- what stands alone: a value itself, or where one is found
pub data Operand : Type 0 where
  constant : Form → Operand
  found_at : Place → Operand

-- a named argument of a filter
pub record Argument : Type 0 where
  pub name : List ℕ
  pub value : Operand

-- what is made of one value: `not`, `-` and `is defined`
pub data Unary : Type 0 where
  denied : Unary
  opposite : Unary
  is_defined : Unary

-- what is made of two: `or`, `and`, `in`, `not in`, a comparison, or arithmetic
pub data Binary : Type 0 where
  either : Binary
  both : Binary
  within : Binary
  not_within : Binary
  equal : Binary
  unequal : Binary
  less : Binary
  at_most : Binary
  more : Binary
  at_least : Binary
  arithmetic : layer.Operator → Binary

-- what a value is written by: what stands alone, what it is made of, or behind it a filter
pub data Expression : Type 0 where
  operand : Operand → Expression
  one : Unary → Expression → Expression
  two : Binary → Expression → Expression → Expression
  piped : Filter → Expression → List Argument → Expression

-- an expression, the text that it is written in, and the template from the tag around it on
pub record Written : Type 0 where
  pub text : List ℕ
  pub from : List ℕ
  pub expression : Expression

-- how a value is shown: as a page shows it, or as it prints
pub data Showing : Type 0 where
  in_page : Showing
  as_printed : Showing

-- what a loop binds: a name for each item of an array, or two for each pair of a map
pub data Bound : Type 0 where
  item : List ℕ → Bound
  pair : List ℕ → List ℕ → Bound

-- a text; a comment; a value that is shown; a name that is set to a value; what is taken where a
-- value is true, and where not; what is repeated in each turn of a loop, and what is taken where it
-- has none
mutual
  pub data Part : Type 0 where
    text : List ℕ → Part
    comment : List ℕ → Part
    show : Written → Showing → Part
    assign : List ℕ → Written → Part
    choice : Written → Parts → Parts → Part
    loop : Bound → Written → Parts → Parts → Part

  pub data Parts : Type 0 where
    no_parts : Parts
    part : Part → Parts → Parts

-- a list of parts
abbrev pub parts : List Part → Parts
parts [] = no_parts
parts (p ∷ ps) = part p (parts ps)

-- parts, and behind them others
abbrev pub followed : Parts → Parts → Parts
followed no_parts rest = rest
followed (part p ps) rest = part p (followed ps rest)
