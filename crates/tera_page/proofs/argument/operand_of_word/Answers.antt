-- A number, or a place.
use Rattle.std.proofs.Common.{◌≡◌, ◌∙◌, Some, subst, sym}
use Rattle.tera.specs.Path.{place}
use Rattle.tera_page.proofs.argument.operand_of_word.Goals as goal
use Rattle.tera_page.specs.Arguments as grammar
use Rattle.tera_page.specs.Arguments.{IsOperand}
use Rattle.tera_page.specs.Symbols.{word}
use Rattle.tera_page.specs.Template.{constant, found_at}
use Rattle.tera_page.specs.View.{place_of}

pub returns-in-Some : goal.returns-in-Some
returns-in-Some c =
    let is : place c.args.word.now ≡ Some c.in-Some.number = sym c.place_in_path.ensures ∙ c.in-Some.is in
    subst (λ v. IsOperand (constant v) (word c.args.word.now)) (sym c.from.ensures) (grammar.number c.in-Some.number c.args.word.now is)

pub returns-in_ok-place_in-in-None : goal.returns-in_ok-place_in-in-None
returns-in_ok-place_in-in-None c =
    let at = place_of c.in_ok-place_in-in-None.field-0 in
    subst (λ w. IsOperand (found_at at) (word w)) (sym c.in_ok-place_in-in-None.ensures.written)
    (grammar.found at c.in_ok-place_in-in-None.ensures.proper)
