-- A text, and a word of the language.
use Rattle.std.proofs.Common.{◌∙◌, ap, false, subst, sym}
use Rattle.tera.specs.View.{marked}
use Rattle.tera_page.proofs.argument.operand_in.Goals as goal
use Rattle.tera_page.specs.Arguments as grammar
use Rattle.tera_page.specs.Arguments.{IsOperand}
use Rattle.tera_page.specs.Symbols.{quoted}
use Rattle.tera_page.specs.Template.{constant}
use Rattle.tera_page.specs.Tokens.{sign_of, symbol_of}

pub returns-in_ok-text-in-Quoted : goal.returns-in_ok-text-in-Quoted
returns-in_ok-text-in-Quoted c =
    let t = c.in-Quoted.text.now in
    subst (λ s. IsOperand (constant c.from.result) (symbol_of s)) (sym c.in-Quoted.is)
    (subst (λ v. IsOperand (constant v) (quoted t)) (sym (c.from.ensures ∙ ap (λ b. marked b false) c.in_ok-text-in-Quoted.ensures.ok))
    (grammar.text t))

pub returns-in-Some : goal.returns-in-Some
returns-in-Some c =
    subst (λ s. IsOperand (constant c.in-Some.value) (symbol_of s)) (sym c.in-Sign.is)
    (grammar.of_language (sign_of c.in-Sign.sign) c.in-Some.value c.in-Some.ensures)
