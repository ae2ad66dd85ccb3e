use Rattle.std.proofs.Common.{subst, inr, ◌∷◌}
use Rattle.tera.proofs.GivenLaws.{passed_on}
use Rattle.uses.specs.Filters.{EscapeRefuses}
use Rattle.uses.proofs.filters.join.Goals as goal

-- both arguments were taken, and a text was not escaped
pub returns-in_err-joined-clause-err : goal.returns-in_err-joined-clause-err
returns-in_err-joined-clause-err g c =
    let between = c.in_ok-between.between in
    let refused = subst (λ parts. EscapeRefuses g.S.Autoescape.escapes g.S.Autoescape.refuses c.args.state.now (between ∷ parts) c.in_err-joined.field-0.0)
    c.as_slice.ensures.value c.in_err-joined.ensures.err in
    passed_on _ _ _ c.from_residual-in_err-joined.ensures.1
    (inr (c.in_ok-parts.parts.items, c.in_ok-parts.ensures.ok, inr (between, c.in_ok-between.ensures.ok, refused)))
