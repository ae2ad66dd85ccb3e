-- By the parentheses, or by none.
use Rattle.std.proofs.Common.{◌∙◌, ◌∷◌, [], ap, refl, subst, sym}
use Rattle.std.proofs.lemmas.Result.{IfOk-weaker}
use Rattle.tera_page.proofs.argument.arguments_in.Goals as goal
use Rattle.tera_page.specs.Arguments as grammar
use Rattle.tera_page.specs.Arguments.{AreArguments}
use Rattle.tera_page.specs.Parsing.{symbols_of}
use Rattle.tera_page.specs.Symbols as symbol
use Rattle.tera_page.specs.View.{arguments_of}

pub returns-in_default-clause-read : goal.returns-in_default-clause-read
returns-in_default-clause-read c =
    let ss = symbols_of c.args.symbols.now in
    subst (λ given. AreArguments (arguments_of given) ss ss) (sym c.new.ensures.items) (grammar.left_out ss)

pub returns-in-Some-behind-clause-read : goal.returns-in-Some-behind-clause-read
returns-in-Some-behind-clause-read c =
    let rest = symbols_of c.in-Some-behind.rest.now in
    let both = c.in-Some.ensures.first ∙ ap (λ l. symbol.sign symbol.opens ∷ l) c.in-Some-behind.ensures.first in
    subst (λ l. AreArguments (arguments_of c.new-in-Some-behind.result.items) l rest) (sym both)
    (subst (λ given. AreArguments (arguments_of given) (symbol.sign symbol.opens ∷ symbol.sign symbol.closes ∷ rest) rest)
    (sym c.new-in-Some-behind.ensures.items) (grammar.in_parentheses [] (symbol.sign symbol.closes ∷ rest) rest refl))

pub returns-in-None-clause-read : goal.returns-in-None-clause-read
returns-in-None-clause-read c =
    IfOk-weaker c.listed_in.result _ _ (λ read listed.
    subst (λ l. AreArguments (arguments_of read.0.items) l (symbols_of read.1.now)) (sym c.in-Some.ensures.first)
    (grammar.in_parentheses (arguments_of read.0.items) (symbols_of c.in-Some.inner.now) (symbols_of read.1.now) listed))
    c.listed_in.ensures.read
