-- The calls: the word of each, what stands behind it, whether a name for what is found may follow,
-- and the request that it makes.
use Rattle.std.specs.Prelude.{ℕ, Bool, true, false, List, codes}
use Rattle.tera_meaning.specs.Conversion.{IntegerType}
use Rattle.tera_meaning.specs.Form.{Form}
use Rattle.tera_meaning.specs.Question
use Rattle.tera_meaning.specs.Request.{Request, set, extend, remove, mark_safe, ask, weigh, find}
use Rattle.tera_meaning.specs.Search
use Rattle.tera_meaning.specs.State.{State}
use Rattle.tera_meaning.specs.Weighing
use Rattle.tera_report.specs.Refusal.{plus, minus, times, remainder, floor_division, power}
use Rattle.tera_script.specs.declared.bound.Bounds.{Bounds}
use Rattle.tera_script.specs.declared.verb.Shape.{Shape}
use Rattle.tera_script.specs.declared.verb.Shape.TheVariants as shape
use Rattle.tera_script.specs.declared.verb.Verb.{Verb}
use Rattle.tera_script.specs.declared.verb.Verb.TheVariants as verb

-- what operands of a shape give
abbrev pub Given : Shape → Type 0
Given shape.Name = List ℕ
Given shape.Names = List ℕ × List ℕ
Given shape.Text = List ℕ × List ℕ
Given shape.Bounds = List ℕ × Bounds
Given shape.Type = IntegerType × List ℕ
Given shape.Literal = List ℕ × Form
Given shape.Map = State

-- the shape of what stands behind a call's word, with the request that the call makes of it
pub data Making : Type 0 where
  -- a name; two names; a name and a text; a name and three bounds; an integer type and a name
  of_name : (List ℕ → Request) → Making
  of_names : (List ℕ → List ℕ → Request) → Making
  of_text : (List ℕ → List ℕ → Request) → Making
  of_bounds : (List ℕ → Bounds → Request) → Making
  of_type : (IntegerType → List ℕ → Request) → Making
  -- a name and a literal; a map whose keys are all texts
  of_literal : (List ℕ → Form → Request) → Making
  of_map : (State → Request) → Making

abbrev pub shape_of : Making → Shape
shape_of (of_name f) = shape.Name
shape_of (of_names f) = shape.Names
shape_of (of_text f) = shape.Text
shape_of (of_bounds f) = shape.Bounds
shape_of (of_type f) = shape.Type
shape_of (of_literal f) = shape.Literal
shape_of (of_map f) = shape.Map

abbrev pub requested : (making : Making) → Given (shape_of making) → Request
requested (of_name f) given = f given
requested (of_names f) given = f given.0 given.1
requested (of_text f) given = f given.0 given.1
requested (of_bounds f) given = f given.0 given.1
requested (of_type f) given = f given.0 given.1
requested (of_literal f) given = f given.0 given.1
requested (of_map f) given = f given

pub record Row : Type 0 where
  pub word : List ℕ
  pub making : Making
  -- whether a name for what is found may follow
  pub keeps : Bool

-- a call with no name for what is found, and one that may have such a name
abbrev pub plain : List ℕ → Making → Row
plain word making = record { word = word; making = making; keeps = false }

abbrev pub keeping : List ℕ → Making → Row
keeping word making = record { word = word; making = making; keeps = true }

abbrev pub row_of : Verb → Row
row_of verb.Set = plain (codes "set") (of_literal set)
row_of verb.Extend = plain (codes "extend") (of_map extend)
row_of verb.Remove = plain (codes "remove") (of_name remove)
row_of verb.Has = plain (codes "has") (of_name (ask Question.has))
row_of verb.Len = plain (codes "len") (of_name (ask Question.len))
row_of verb.Truthy = plain (codes "truthy") (of_name (ask Question.truthy))
row_of verb.Kind = plain (codes "kind") (of_name (ask Question.kind))
row_of verb.IsSafe = plain (codes "is_safe") (of_name (ask Question.is_safe))
row_of verb.Print = plain (codes "print") (of_name (ask Question.print))
row_of verb.Escape = plain (codes "escape") (of_name (ask Question.escape))
row_of verb.Fields = plain (codes "fields") (of_name (ask Question.fields))
row_of verb.Walk = plain (codes "walk") (of_name (ask Question.walk))
row_of verb.Equal = plain (codes "eq") (of_names (weigh Weighing.equal))
row_of verb.Compare = plain (codes "cmp") (of_names (weigh Weighing.compare))
row_of verb.TryCompare = plain (codes "try_cmp") (of_names (weigh Weighing.try_compare))
row_of verb.Contains = plain (codes "contains") (of_names (weigh Weighing.contains))
row_of verb.Get = keeping (codes "get") (of_name (λ name. find (Search.get name)))
row_of verb.Reverse = keeping (codes "reverse") (of_name (λ name. find (Search.reverse name)))
row_of verb.Negate = keeping (codes "negate") (of_name (λ name. find (Search.negate name)))
row_of verb.MarkSafe = keeping (codes "mark_safe") (of_name mark_safe)
row_of verb.Item = keeping (codes "item") (of_names (λ left right. find (Search.item left right)))
row_of verb.Add = keeping (codes "add")
    (of_names (λ left right. find (Search.calculate plus left right)))
row_of verb.Sub = keeping (codes "sub")
    (of_names (λ left right. find (Search.calculate minus left right)))
row_of verb.Mul = keeping (codes "mul")
    (of_names (λ left right. find (Search.calculate times left right)))
row_of verb.Rem = keeping (codes "rem")
    (of_names (λ left right. find (Search.calculate remainder left right)))
row_of verb.FloorDiv = keeping (codes "floor_div")
    (of_names (λ left right. find (Search.calculate floor_division left right)))
row_of verb.Pow = keeping (codes "pow")
    (of_names (λ left right. find (Search.calculate power left right)))
row_of verb.Path = keeping (codes "path") (of_text (λ name text. find (Search.path name text)))
row_of verb.Attr = keeping (codes "attr") (of_text (λ name text. find (Search.attr name text)))
row_of verb.Slice = keeping (codes "slice")
    (of_bounds (λ name bounds. find (Search.slice name bounds.start bounds.end bounds.step)))
row_of verb.Read = keeping (codes "read") (of_type (λ type name. find (Search.read type name)))

abbrev pub word_of : Verb → List ℕ
word_of verb = (row_of verb).word
