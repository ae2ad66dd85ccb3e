use Rattle.std.proofs.Common.{ap, ◌∙◌, ◌++◌, ◌∷◌, arith}
use Rattle.std.specs.String.{string_bytes}
use Rattle.tera.proofs.GivenLaws.{passed_on}
use Rattle.uses.proofs.Joined.{first_joined, next_joined, is_among, is_first, refused_of}
use Rattle.uses.proofs.filters.joined.Goals.{then-place-gt0+in_ok-put_shown, else-place-gt0}
use Rattle.uses.specs.Filters.{shown}
use Rattle.uses.proofs.filters.joined.Goals as goal

pub loop-place-preserved : goal.loop-place-preserved
loop-place-preserved g c =
    let as_shown = shown g.S.Autoescape.escapes g.S.Autoescape.escaped c.args.state.now in
    let grown = c.in_ok-put_shown-2.ensures.ok in
    elim c.if-place-gt0.branch [
      | then-place-gt0+in_ok-put_shown w ↦
          next_joined as_shown (as_shown c.args.between.now) c.args.parts.now c.loop-place.place c.index-parts-place.result
          (string_bytes c.put_shown-in-loop-place.new.out) (string_bytes c.loop-place.joined)
          c.loop-place-test.true c.index-parts-place.is w.if-place-gt0.true c.loop-place.invariant
          (grown ∙ ap (λ t. t ++ as_shown c.index-parts-place.result) (ap (λ t. string_bytes t) w.joined-is ∙ w.in_ok-put_shown.ensures.ok))
      | else-place-gt0 w ↦
          first_joined as_shown (as_shown c.args.between.now) c.args.parts.now c.loop-place.place c.index-parts-place.result
          (string_bytes c.put_shown-in-loop-place.new.out) (string_bytes c.loop-place.joined)
          c.loop-place-test.true c.index-parts-place.is (omega (arith, w.if-place-gt0.false)) c.loop-place.invariant
          (grown ∙ ap (λ t. t ++ as_shown c.index-parts-place.result) (ap (λ t. string_bytes t) w.joined-is))
    ]

pub returns-in_err-put_shown-clause-err : goal.returns-in_err-put_shown-clause-err
returns-in_err-put_shown-clause-err g c =
    passed_on _ _ _ c.from_residual.ensures.1
    (refused_of g.S.Autoescape.escapes g.S.Autoescape.refuses c.args.state.now (c.args.between.now ∷ c.args.parts.now) c.args.between.now _
    (is_first c.args.between.now c.args.parts.now) c.in_err-put_shown.ensures.err)

pub returns-in_err-put_shown-2-clause-err : goal.returns-in_err-put_shown-2-clause-err
returns-in_err-put_shown-2-clause-err g c =
    passed_on _ _ _ c.from_residual-in_err-put_shown-2.ensures.1
    (refused_of g.S.Autoescape.escapes g.S.Autoescape.refuses c.args.state.now (c.args.between.now ∷ c.args.parts.now) c.index-parts-place.result _
    (is_among c.args.between.now c.args.parts.now c.loop-place.place c.index-parts-place.result c.loop-place-test.true c.index-parts-place.is)
    c.in_err-put_shown-2.ensures.err)
