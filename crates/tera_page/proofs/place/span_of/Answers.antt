-- What stands before the rest is got, where that is an ending.
use Rattle.std.proofs.Common.{◌≡◌, ℕ, ◌-◌, ◌++◌, length, List, take, subst, ap, sym, ◌∙◌, arith, refl, Bor}
use Rattle.std.proofs.lemmas.List.{length-append, take_at}
use Rattle.std.proofs.lemmas.Str.{IsCharBoundary-at_seam, IsCharBoundary-start}
use Rattle.std.specs.Prelude.{Option, Some, None}
use Rattle.std.specs.Option.{unwrap_or}
use Rattle.std.specs.Str.{IsUtf8, IsCharBoundary}
use Rattle.std.specs.Str.Pattern.{GetsRange}
use Rattle.tera_page.proofs.place.span_of.Goals as goal
use Rattle.tera_page.specs.Places.{column_behind, line_behind}

-- what stands before an ending of a text is got by its length
got_before : (got : Option (Bor (List ℕ))) (none : Bor (List ℕ)) (source before left : List ℕ) (start : ℕ) → IsUtf8 source → IsUtf8 left
    → start ≡ length source - length left → source ≡ before ++ left → GetsRange source 0 start got → (unwrap_or got none).now ≡ before
got_before None none source before left start utf8 text is whole gets =
    let size : start ≡ length before = omega (arith, ap length whole, length-append before left) in
    absurd (gets (omega arith) (IsCharBoundary-start source utf8)
    (subst (λ n. IsCharBoundary source n) (sym size) (IsCharBoundary-at_seam source before left whole text)))
got_before (Some found) none source before left start utf8 text is whole gets =
    let size : start ≡ length before = omega (arith, ap length whole, length-append before left) in
    let all : start - 0 ≡ start = omega arith in
    gets.0 ∙ ap (λ n. take n source) all ∙ ap (take start) whole ∙ take_at before left start (sym size)

pub returns : goal.returns
returns c =
    let source = c.args.source.now in
    let left = c.args.left.now in
    let before : (before : List ℕ) → source ≡ before ++ left → c.unwrap_or.result.now ≡ before =
    λ before whole. ap (λ x. x.now) c.unwrap_or.ensures
    ∙ got_before c.get.result _ source before left c.saturating_sub-start.result c.utf8.source c.utf8.left c.saturating_sub-start.ensures whole
    c.get.ensures.cases in
    record {
      start = c.saturating_sub-start.ensures;
      end = omega (arith, c.min-end.ensures, c.saturating_add.ensures);
      line = λ first whole. c.line_and_column-line.ensures.line ∙ ap line_behind (before first whole);
      column = λ first whole. c.line_and_column-line.ensures.column ∙ ap column_behind (before first whole);
      one_line = refl;
      width = refl;
    }
