-- By what is read of two, and level by level.
use Rattle.std.proofs.Common.{◌∙◌, ◌∷◌, ap, refl, subst, sym, arith}
use Rattle.std.proofs.lemmas.Result.{IfOk-weaker}
use Rattle.tera.specs.Refusal as layer
use Rattle.tera_page.proofs.Rows.{read_two, row_first, row_second}
use Rattle.tera_page.proofs.expression.+read.Goals as goal
use Rattle.tera_page.specs.Expressions as grammar
use Rattle.tera_page.specs.Expressions.{Reads, alone, comparisons, nots, opposites, ors, pipes, powers}
use Rattle.tera_page.specs.Parsing.{row_level, symbols_of}
use Rattle.tera_page.specs.Symbols as symbol
use Rattle.tera_page.specs.Template.{arithmetic, operand}
use Rattle.tera_page.specs.Tokens.{symbol_of}
use Rattle.tera_page.specs.View.{arguments_of, binary_of, expression_of, operand_of}

pub read_comparison-returns-in_ok-two-in-Some-comparison_in : goal.read_comparison-returns-in_ok-two-in-Some-comparison_in
read_comparison-returns-in_ok-two-in-Some-comparison_in t c =
    let found = c.in-Some-comparison_in in
    let right = c.in_ok-right-in-Some-comparison_in in (
      read_two (binary_of found.operator) comparisons (expression_of c.in_ok-left.left) (expression_of right.right)
          (expression_of c.in_ok-two-in-Some-comparison_in.field-0) (symbols_of c.args.symbols.now) (symbols_of found.after.now)
          (symbols_of c.in_ok-left.rest.now) (symbols_of right.rest.now) found.ensures.level found.ensures.between c.in_ok-left.ensures.0
          right.ensures.0 c.in_ok-two-in-Some-comparison_in.ensures,
      omega (arith, c.in_ok-left.ensures.1, found.ensures.shorter, right.ensures.1),
    )

pub read_comparison-returns-in-None : goal.read_comparison-returns-in-None
read_comparison-returns-in-None t c = (
  grammar.tighter_one comparisons (expression_of c.in_ok-left.left) (symbols_of c.args.symbols.now) (symbols_of c.in_ok-left.rest.now)
      c.in_ok-left.ensures.0,
  c.in_ok-left.ensures.1,
)

pub read_group-returns-in-Some-clause-reads : goal.read_group-returns-in-Some-clause-reads
read_group-returns-in-Some-clause-reads t c =
    let e = expression_of c.in_ok-inner.inner in
    let ss = symbols_of c.args.symbols.now in
    grammar.in_parentheses e ss (symbols_of c.in-Some.rest.now) (subst (Reads ors e ss) c.in-Some.ensures.first c.in_ok-inner.ensures.0)

pub read_not-returns-in_ok-one-in-Some : goal.read_not-returns-in_ok-one-in-Some
read_not-returns-in_ok-one-in-Some t c =
    let inner = c.in_ok-inner-in-Some in
    let rest = symbols_of inner.rest.now in
    let ss = symbols_of c.in-Some.rest.now in (
      subst (λ l. Reads nots (expression_of c.in_ok-one-in-Some.field-0) l rest) (sym c.in-Some.ensures.first)
          (subst (λ e. Reads nots e (symbol.sign symbol.not_ ∷ ss) rest) (sym c.in_ok-one-in-Some.ensures)
          (grammar.not_one (expression_of inner.inner) ss rest inner.ensures.0)),
      omega (arith, inner.ensures.1, c.in-Some.ensures.shorter),
    )

pub read_not-returns-in-None : goal.read_not-returns-in-None
read_not-returns-in-None t c =
    IfOk-weaker c.read-in-None.result _ _ (λ read is. (
      grammar.tighter_one nots (expression_of read.0) (symbols_of c.args.symbols.now) (symbols_of read.1.now) is.0,
      is.1,
    )) c.read-in-None.ensures

pub read_opposite-returns-in_ok-one-in-Some : goal.read_opposite-returns-in_ok-one-in-Some
read_opposite-returns-in_ok-one-in-Some t c =
    let inner = c.in_ok-inner-in-Some in
    let rest = symbols_of inner.rest.now in
    let ss = symbols_of c.in-Some.rest.now in (
      subst (λ l. Reads opposites (expression_of c.in_ok-one-in-Some.field-0) l rest) (sym c.in-Some.ensures.first)
          (subst (λ e. Reads opposites e (symbol.sign symbol.minus ∷ ss) rest) (sym c.in_ok-one-in-Some.ensures)
          (grammar.minus_one (expression_of inner.inner) ss rest inner.ensures.0)),
      omega (arith, inner.ensures.1, c.in-Some.ensures.shorter),
    )

pub read_opposite-returns-in-None : goal.read_opposite-returns-in-None
read_opposite-returns-in-None t c =
    IfOk-weaker c.read-in-None.result _ _ (λ read is. (
      grammar.tighter_one opposites (expression_of read.0) (symbols_of c.args.symbols.now) (symbols_of read.1.now) is.0,
      is.1,
    )) c.read-in-None.ensures

pub read_power-returns-in_ok-two-in-Some : goal.read_power-returns-in_ok-two-in-Some
read_power-returns-in_ok-two-in-Some t c =
    let right = c.in_ok-exponent-in-Some in (
      read_two (arithmetic layer.power) powers (expression_of c.in_ok-base.base) (expression_of right.exponent)
          (expression_of c.in_ok-two-in-Some.field-0) (symbols_of c.args.symbols.now) (symbols_of c.in-Some.after.now)
          (symbols_of c.in_ok-base.rest.now) (symbols_of right.rest.now) refl c.in-Some.ensures.first c.in_ok-base.ensures.0 right.ensures.0
          c.in_ok-two-in-Some.ensures,
      omega (arith, c.in_ok-base.ensures.1, c.in-Some.ensures.shorter, right.ensures.1),
    )

pub read_power-returns-in-None : goal.read_power-returns-in-None
read_power-returns-in-None t c = (
  grammar.tighter_one powers (expression_of c.in_ok-base.base) (symbols_of c.args.symbols.now) (symbols_of c.in_ok-base.rest.now)
      c.in_ok-base.ensures.0,
  c.in_ok-base.ensures.1,
)

pub read_row-row-init : goal.read_row-row-init
read_row-row-init t c =
    let e = expression_of c.in_ok-left.left in
    let ss = symbols_of c.args.symbols.now in
    let rest = symbols_of c.in_ok-left.rest.now in (
      grammar.tighter_one (row_level c.args.row) e ss rest (subst (λ l. Reads l e ss rest) c.tighter.ensures c.in_ok-left.ensures.0),
      c.in_ok-left.ensures.1,
    )

pub read_row-row-preserved : goal.read_row-row-preserved
read_row-row-preserved t c =
    let row = c.args.row in
    let found = c.in-Some in
    let right = c.in_ok-right in
    let left = expression_of c.row.left in
    let ss = symbols_of c.args.symbols.now in
    let ts = symbols_of found.after.now in
    let us = symbols_of c.row.rest.now in
    let rest = symbols_of right.left_over.now in (
      read_two (binary_of found.operator) (row_level row) left (expression_of right.right) (expression_of c.in_ok-left-2.left) ss ts us rest
          found.ensures.level found.ensures.between (subst (λ l. Reads l left ss us) (sym (row_first row)) c.row.invariant.0)
          (subst (λ l. Reads l (expression_of right.right) ts rest) (c.tighter-in-Some.ensures ∙ sym (row_second row)) right.ensures.0)
          c.in_ok-left-2.ensures,
      omega (arith, c.row.invariant.1, found.ensures.shorter, right.ensures.1),
    )

pub read_piped-pipes-init : goal.read_piped-pipes-init
read_piped-pipes-init t c = (
  grammar.tighter_one pipes (expression_of c.in_ok-inner.inner) (symbols_of c.args.symbols.now) (symbols_of c.in_ok-inner.rest.now)
      c.in_ok-inner.ensures.0,
  c.in_ok-inner.ensures.1,
)

pub read_piped-pipes-preserved : goal.read_piped-pipes-preserved
read_piped-pipes-preserved t c =
    let filter = c.in_ok-filter in
    let given = c.in_ok-arguments in
    let inner = expression_of c.pipes.inner in
    let ss = symbols_of c.args.symbols.now in
    let rest = symbols_of given.left.now in
    let first = c.in-Some.ensures.first ∙ ap (λ l. symbol.sign symbol.bar ∷ l) filter.ensures.first in (
      subst (λ e. Reads pipes e ss rest) (sym c.in_ok-inner-2.ensures)
          (grammar.piped_one filter.filter inner (arguments_of given.arguments.items) ss (symbols_of filter.after.now) rest
          (subst (Reads pipes inner ss) first c.pipes.invariant.0) given.ensures.read),
      omega (arith, c.pipes.invariant.1, c.in-Some.ensures.shorter, filter.ensures.shorter, given.ensures.within),
    )

pub read_alone-returns : goal.read_alone-returns
read_alone-returns t c =
    let one = operand_of c.in_ok-operand_in.field-0 in
    let rest = symbols_of c.in_ok-first.rest.now in (
      subst (λ l. Reads alone (operand one) l rest) (sym c.in_ok-first.ensures.first)
          (grammar.alone_one one (symbol_of c.in_ok-first.first) rest c.in_ok-operand_in.ensures),
      omega (arith, c.in_ok-first.ensures.shorter),
    )
