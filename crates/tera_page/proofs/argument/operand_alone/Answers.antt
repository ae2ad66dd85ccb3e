-- By the symbol that is first.
use Rattle.std.proofs.Common.{subst, sym}
use Rattle.tera_page.proofs.argument.operand_alone.Goals as goal
use Rattle.tera_page.specs.Arguments as grammar
use Rattle.tera_page.specs.Arguments.{IsGiven}
use Rattle.tera_page.specs.Parsing.{symbols_of}
use Rattle.tera_page.specs.Tokens.{symbol_of}
use Rattle.tera_page.specs.View.{operand_of}

pub returns-clause-read : goal.returns-clause-read
returns-clause-read c =
    let alone = operand_of c.in_ok-operand_in.field-0 in
    let rest = symbols_of c.in_ok-first.rest.now in
    subst (λ l. IsGiven alone l rest) (sym c.in_ok-first.ensures.first)
    (grammar.as_it_is alone (symbol_of c.in_ok-first.first) rest c.in_ok-operand_in.ensures)
