use Rattle.std.proofs.Common.{◌≡◌, ◌==◌, ◌<◌, sym, ap, ◌∙◌, arith, length, get_or}
use Rattle.std.proofs.lemmas.Bool.{eqb-true}
use Rattle.std.proofs.lemmas.Str.{IsCharBoundary-after_ascii}
use Rattle.tera_report.specs.Parts.{line_feed}
use Rattle.tera_report.proofs.PartLaws.{cut_at_feed}
use Rattle.tera_report.proofs.report.source.split_line.Goals as goal

pub range_from-requires : goal.range_from-requires
range_from-requires c = λ some.
    let (first, feed) = c.in_ok-at.ensures in
    let is : get_or c.args.text.now c.in_ok-at.at 0 ≡ line_feed =
    ap (λ l. get_or l c.in_ok-at.at 0) (sym c.as_bytes.ensures.value) ∙ eqb-true _ line_feed feed in
    let inside : c.in_ok-at.at < length c.args.text.now = omega (arith, first.high, c.as_bytes.ensures.len) in
    IsCharBoundary-after_ascii c.args.text.now c.in_ok-at.at c.utf8.text inside (omega (arith, is))

pub returns-clause-found : goal.returns-clause-found
returns-clause-found c =
    let (first, feed) = c.in_ok-at.ensures in
    let same = c.as_bytes.ensures.value in
    let at = c.in_ok-at.at in
    cut_at_feed c.args.text.now c.range.result.now c.range_from.result.now at
    (omega (arith, first.high, c.as_bytes.ensures.len))
    (ap (λ l. get_or l at 0) (sym same) ∙ eqb-true _ line_feed feed)
    (λ k low high is. first.before k low high (ap (λ l. get_or l k 0 == line_feed) same ∙ is))
    c.range.ensures.value c.range_from.ensures.value
