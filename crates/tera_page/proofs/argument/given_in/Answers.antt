-- By the two symbols that are first.
use Rattle.std.proofs.Common.{◌∙◌, ◌∷◌, ap, subst, sym}
use Rattle.tera_page.proofs.argument.given_in.Goals as goal
use Rattle.tera_page.specs.Arguments as grammar
use Rattle.tera_page.specs.Arguments.{IsGiven, IsOperand}
use Rattle.tera_page.specs.Parsing.{symbols_of}
use Rattle.tera_page.specs.Symbols as symbol
use Rattle.tera_page.specs.Template.{constant}
use Rattle.tera_page.specs.Tokens.{symbol_of}
use Rattle.tera_page.specs.View.{operand_of}

pub returns-in-Ok-clause-read : goal.returns-in-Ok-clause-read
returns-in-Ok-clause-read c =
    let first = symbol_of c.in_ok-first.first in
    let rest = symbols_of c.in_ok-first.rest.now in
    let both = c.in-Some.ensures.first ∙ ap (λ l. symbol.sign symbol.minus ∷ l) c.in_ok-first.ensures.first in
    let alone = subst (λ o. IsOperand (operand_of o) first) c.in-Constant.is c.in_ok-value.ensures in
    subst (λ l. IsGiven (constant c.in-Ok.opposite) l rest) (sym both)
    (grammar.opposite c.in-Constant.value c.in-Ok.opposite first rest alone c.in-Ok.ensures.ok)
