-- The words of the tag.
use Rattle.std.proofs.Common.{◌∙◌, ◌≡◌, subst, sym}
use Rattle.std.specs.Prelude.{codes}
use Rattle.tera_page.proofs.Spelled.{same_text}
use Rattle.tera_page.proofs.token.for_in.Goals as goal
use Rattle.tera_page.specs.Words.{IsNext}

pub returns-then-eq : goal.returns-then-eq
returns-then-eq c =
    let over = c.next_word.result.1.now in
    let is_in : c.next_word.result.0.now ≡ codes "in" = same_text _ _ (sym c.eq.ensures ∙ c.if-eq.true) in (
      c.in_ok-bound.ensures.proper,
      (c.in_ok-bound.rest.now, c.in_ok-bound.ensures.binds, subst (λ w. IsNext c.in_ok-bound.rest.now w over) is_in c.next_word.ensures),
    )
