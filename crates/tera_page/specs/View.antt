-- The tree of `specs/Template.antt` that a node stands for, and the state that a scope reads.
use Rattle.std.specs.Prelude.{List, [], ◌∷◌, map, codes, Option, unwrap_or}
use Rattle.std.specs.FinMap.{empty, insert}
use Rattle.std.specs.Option.{option_copied}
use Rattle.tera.specs.Form.{Form}
use Rattle.tera.specs.Operation.{operator_of}
use Rattle.tera.specs.State.{State, extended}
use Rattle.tera_page.specs.Rendering.{Names, under}
use Rattle.tera_page.specs.Template as tree
use Rattle.tera_page.specs.declared.tree.Argument.{Argument}
use Rattle.tera_page.specs.declared.tree.Binary.{Binary}
use Rattle.tera_page.specs.declared.tree.Binary.TheVariants.{Or, And, In, NotIn, Equal, Unequal}
use Rattle.tera_page.specs.declared.tree.Binary.TheVariants.{Less, AtMost, More}
use Rattle.tera_page.specs.declared.tree.Binary.TheVariants.{AtLeast, Arithmetic}
use Rattle.tera_page.specs.declared.tree.Bound.{Bound}
use Rattle.tera_page.specs.declared.tree.Bound.TheVariants.{Item, Pair}
use Rattle.tera_page.specs.declared.tree.Expression.{Expression}
use Rattle.tera_page.specs.declared.tree.Expression.TheVariants.{One', Piped', Two'}
use Rattle.tera_page.specs.declared.tree.Expression.TheVariants as written
use Rattle.tera_page.specs.declared.tree.Operand.{Operand}
use Rattle.tera_page.specs.declared.tree.Operand.TheVariants.{Constant, Found}
use Rattle.tera_page.specs.declared.scope.Scope.{Scope, fold-Scope}
use Rattle.tera_page.specs.declared.scope.Scope.TheOpen.{Scope-F}
use Rattle.tera_page.specs.declared.scope.Turn.{Turn}
use Rattle.tera_page.specs.declared.tree.Node.{Node, fold-Node}
use Rattle.tera_page.specs.declared.tree.Node.TheOpen.{Node-F}
use Rattle.tera_page.specs.declared.tree.Place.{Place}
use Rattle.tera_page.specs.declared.tree.Showing.{Showing}
use Rattle.tera_page.specs.declared.tree.Showing.TheVariants.{InPage, AsPrinted}
use Rattle.tera_page.specs.declared.tree.Template.{Template}
use Rattle.tera_page.specs.declared.tree.Unary.{Unary}
use Rattle.tera_page.specs.declared.tree.Unary.TheVariants.{Not, Minus, IsDefined}
use Rattle.tera_page.specs.declared.tree.Written.{Written}
use Rattle.tera_page.specs.declared.value.Held.{Held}
use Rattle.tera_page.specs.declared.value.Held.TheVariants.{Lent, Made}

abbrev pub place_of : Place → tree.Place
place_of at = record { name = at.name.now; to = option_copied at.to }

abbrev pub unary_of : Unary → tree.Unary
unary_of Not = tree.denied
unary_of Minus = tree.opposite
unary_of IsDefined = tree.is_defined

abbrev pub binary_of : Binary → tree.Binary
binary_of Or = tree.either
binary_of And = tree.both
binary_of In = tree.within
binary_of NotIn = tree.not_within
binary_of Equal = tree.equal
binary_of Unequal = tree.unequal
binary_of Less = tree.less
binary_of AtMost = tree.at_most
binary_of More = tree.more
binary_of AtLeast = tree.at_least
binary_of (Arithmetic operator) = tree.arithmetic (operator_of operator)

abbrev pub operand_of : Operand → tree.Operand
operand_of (Constant value) = tree.constant value
operand_of (Found at) = tree.found_at (place_of at)

abbrev pub argument_of : Argument → tree.Argument
argument_of given = record { name = given.name.now; value = operand_of given.value }

abbrev pub arguments_of : List Argument → List tree.Argument
arguments_of given = map argument_of given

abbrev pub expression_of : Expression → tree.Expression
expression_of (written.Operand alone) = tree.operand (operand_of alone)
expression_of (One' operator p e) = tree.one (unary_of operator) (expression_of e)
expression_of (Two' operator p e q f) =
    tree.two (binary_of operator) (expression_of e) (expression_of f)
expression_of (Piped' filter p e given) =
    tree.piped filter (expression_of e) (arguments_of given.items)

abbrev pub written_of : Written → tree.Written
written_of written =
    record {
      text = written.text.now;
      from = written.from.now;
      expression = expression_of written.expression;
    }

abbrev pub showing_of : Showing → tree.Showing
showing_of InPage = tree.in_page
showing_of AsPrinted = tree.as_printed

abbrev pub bound_of : Bound → tree.Bound
bound_of (Item name) = tree.item name.now
bound_of (Pair key value) = tree.pair key.now value.now

abbrev pub node_step : Node-F tree.Part → tree.Part
node_step (Node-F.Text shown) = tree.text shown.now
node_step (Node-F.Comment said) = tree.comment said.now
node_step (Node-F.Show written how) = tree.show (written_of written) (showing_of how)
node_step (Node-F.Set name written) = tree.assign name.now (written_of written)
node_step (Node-F.If test chosen otherwise) =
    tree.choice (written_of test) (tree.parts chosen.items) (tree.parts otherwise.items)
node_step (Node-F.For bound over body otherwise) =
    tree.loop (bound_of bound) (written_of over) (tree.parts body.items)
    (tree.parts otherwise.items)

abbrev pub part_of : Node → tree.Part
part_of = fold-Node tree.Part node_step

abbrev pub parts_of : List Node → tree.Parts
parts_of nodes = tree.parts (map part_of nodes)

abbrev pub tree_of : Template → tree.Parts
tree_of template = parts_of template.nodes.items

abbrev pub names_of : Turn → Names
names_of turn =
    (codes "loop.index", turn.index) ∷ (codes "loop.index0", turn.index0)
    ∷ (codes "loop.first", turn.first) ∷ (codes "loop.last", turn.last) ∷ []

-- the names of a context, those of the loops around, and those that were set
abbrev pub scope_step : Scope-F State → State
scope_step (Scope-F.Context context) = context.now
scope_step (Scope-F.Turn turn outer) = under outer.now (names_of turn.now)
scope_step (Scope-F.Item name value outer) = insert outer.now name.now value.now
scope_step (Scope-F.Set names outer) = extended outer.now names.now

abbrev pub state_of : Scope → State
state_of = fold-Scope State scope_step

-- what a scope reads, and then the names that were set in it, if there are any
abbrev pub state_with : Scope → Option State → State
state_with scope names = extended (state_of scope) (unwrap_or names empty)

abbrev pub form_of : Held → Form
form_of (Lent value) = value.now
form_of (Made value) = value
