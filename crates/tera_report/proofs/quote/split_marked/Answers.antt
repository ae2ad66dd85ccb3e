use Rattle.std.proofs.Common.{◌≡◌, ◌++◌, ◌-◌, length, take, sym, ap, ◌∙◌, arith}
use Rattle.std.specs.Char.{encode_utf8}
use Rattle.tera_report.proofs.QuoteLemmas.{boundary_before, ends_later, cut_here, plain_through}
use Rattle.tera_report.proofs.quote.split_marked.Goals as goal

pub range-requires-clause-end_boundary : goal.range-requires-clause-end_boundary
range-requires-clause-end_boundary c =
    let (utf8, (front, parts, plain)) = c.bare.invariant in
    let skips = c.skip_plain-after.ensures in
    let after = c.skip_plain-after.result.now in
    boundary_before c.args.text.now (front ++ skips.run) after (ends_later _ front _ skips.run after parts skips.parts) c.skip_plain-after.utf8

pub returns-then-c-lt128-clause-cut : goal.returns-then-c-lt128-clause-cut
returns-then-c-lt128-clause-cut c =
    let (utf8, (front, parts, plain)) = c.bare.invariant in
    let text = c.args.text.now in
    let after = c.skip_plain-after.result.now in
    let tail = c.as_str.result.now in
    let cut : after ≡ encode_utf8 c.in_ok-c.c ++ tail =
    sym c.chars-chars.ensures.rest ∙ c.in_ok-c.ensures.steps.0
    ∙ ap (λ l. encode_utf8 c.in_ok-c.c ++ l) (sym c.as_str.ensures) in
    let n = length text - length after in
    let all : n - 0 ≡ n = omega arith in
    let run : c.range.result.now ≡ take n text = rw all at c.range.ensures.value in
    cut_here text front c.bare.rest.now after tail c.range.result.now c.in_ok-c.c parts plain c.skip_plain-after.ensures cut run

pub bare-preserved : goal.bare-preserved
bare-preserved c =
    let (utf8, (front, parts, plain)) = c.bare.invariant in
    let skips = c.skip_plain-after.ensures in
    let after = c.skip_plain-after.result.now in
    let tail = c.as_str-rest.result.now in
    let cut : after ≡ encode_utf8 c.in_ok-c.c ++ tail =
    sym c.chars-chars.ensures.rest ∙ c.in_ok-c.ensures.steps.0
    ∙ ap (λ l. encode_utf8 c.in_ok-c.c ++ l) (sym c.as_str-rest.ensures) in
    let left = ends_later _ (front ++ skips.run) after _ tail (ends_later _ front _ skips.run after parts skips.parts) cut in (
      c.as_str-rest.utf8,
      (_, left, plain_through front skips.run c.in_ok-c.c plain skips.plain (omega arith)),
    )
