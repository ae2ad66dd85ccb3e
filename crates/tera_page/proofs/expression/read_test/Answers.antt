-- What stands behind `is`.
use Rattle.std.proofs.Common.{◌∷◌, ◌∙◌, ap, subst, sym}
use Rattle.tera_page.proofs.expression.read_test.Goals as goal
use Rattle.tera_page.specs.Expressions as grammar
use Rattle.tera_page.specs.Expressions.{Reads, comparisons, sums}
use Rattle.tera_page.specs.Parsing.{symbols_of}
use Rattle.tera_page.specs.Symbols as symbol
use Rattle.tera_page.specs.Template.{denied, one}
use Rattle.tera_page.specs.View.{expression_of}

pub returns-in_ok-one-in-Some-clause-reads : goal.returns-in_ok-one-in-Some-clause-reads
returns-in_ok-one-in-Some-clause-reads c ss is =
    let inner = expression_of c.args.inner in
    let rest = symbols_of c.in_ok-rest-in-Some.rest.now in
    let left = c.in-Some.ensures.first ∙ ap (λ l. symbol.sign symbol.not_ ∷ l) c.in_ok-rest-in-Some.ensures.first in
    subst (λ e. Reads comparisons e ss rest) (sym (c.in_ok-one-in-Some.ensures ∙ ap (one denied) c.in_ok-defined-in-Some.ensures))
    (grammar.undefined_one inner ss rest (subst (λ l. Reads sums inner ss (symbol.sign symbol.is ∷ l)) left is))

pub returns-in_ok-one-in-None-clause-reads : goal.returns-in_ok-one-in-None-clause-reads
returns-in_ok-one-in-None-clause-reads c ss is =
    let inner = expression_of c.args.inner in
    let rest = symbols_of c.in_ok-rest-in-None.rest.now in
    subst (λ e. Reads comparisons e ss rest) (sym c.in_ok-one-in-None.ensures)
    (grammar.defined_one inner ss rest
    (subst (λ l. Reads sums inner ss (symbol.sign symbol.is ∷ l)) c.in_ok-rest-in-None.ensures.first is))
